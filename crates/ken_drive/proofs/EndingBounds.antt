-- How far a schedule of a run with a handler that keeps the limits of a turn can come, and that its lines can be printed.
use Rattle.std.proofs.Common.{◌≡◌, ◌≢◌, ℕ, zero, suc, ◌+◌, ◌*◌, ◌<◌, ◌≤◌, ◌^◌, ◌⊎◌, inl, inr, List, [], ◌∷◌, ◌++◌, length, slice_index_or, sum_by, All, ◌==◌, Option, Some, None, IfSome, refl, sym, ap, subst, ⊎_elim, arith, length-append, eq-eqb, ne_eqb, eqb-true, add-zero}
use Rattle.std.specs.List.{AllByRecursion, range_with_len}
use Rattle.std.proofs.lemmas.Bool.{cases_eq, cases_lt, cond_both}
use Rattle.std.proofs.lemmas.List.Elements.{All-from_get_or}
use Rattle.std.proofs.lemmas.List.FromFn.{length-range_with_len}
use Rattle.std.proofs.lemmas.List.Sums.{sum_by-cons, sum_by-le}
use Rattle.std.proofs.lemmas.Option.{slice_get_within}
use Rattle.ken_model.specs.declared.facts.Input.{Input}
use Rattle.ken_model.specs.declared.messages.Message.{Message}
use Rattle.ken_model.specs.declared.messages.Send.{Send}
use Rattle.ken_model.specs.declared.messages.Step.{Step}
use Rattle.ken_model.specs.Ending.{nodes_of}
use Rattle.ken_model.specs.Game.{Game}
use Rattle.ken_model.specs.Limits.{IsWithinLimits}
use Rattle.ken_model.specs.Network.{Network, Place, Turn, outside, inputs_from, inputs_for, start, numbered, place_after, applied}
use Rattle.ken_model.specs.Schedule.{IsLegalFrom, played, turn_line, turn_lines}
use Rattle.ken_model.specs.Spelling.{IsPrintableTurn}
use Rattle.ken_app.specs.Turning.{IsAllowed, IsShortText}
use Rattle.ken_app.specs.Limits.{ComesTo, IsCall, KeepsLimits}
use Rattle.ken_drive.proofs.EndingCounts.{sum-one_more}
use Rattle.ken_drive.proofs.EndingPlayed.{all_append, all_at, either, IsTurnOf, turn_is}

-- a message of this sender that is short, and whose number and stamp are at most these
pub record IsSmall (from most latest : ℕ) (m : Message) : Type 0 where
  pub sender : m.from ≡ from
  pub short : IsShortText m.bytes
  pub number : m.number ≤ most
  pub stamp : m.stamp ≤ latest

-- a network after so many steps: what its nodes have come to, and what is on its links
pub record IsWithin (g : Game) (steps : ℕ) (w : Network) : Type 0 where
  pub comes : (v : ℕ) → ComesTo g.handler v g.nodes g.size (w.place v).value
  pub turns : (v : ℕ) → (w.place v).turns ≤ g.turns
  pub count : steps ≡ sum_by (λ v. (w.place v).turns) (nodes_of g)
  pub stamps : (v : ℕ) → (w.place v).stamp ≤ steps
  pub outs : (v : ℕ) → length (w.place v).outs ≤ 16 * (w.place v).turns
  pub nowhere : (u v : ℕ) → g.nodes ≤ v → (w.link u v).sent ≡ []
  pub strangers : (u v : ℕ) → g.nodes ≤ u → u ≢ outside → (w.link u v).sent ≡ []
  pub few : (u v : ℕ) → length (w.link u v).sent ≤ length g.inputs + 16 * (w.place u).turns
  pub mail : (u v : ℕ) → AllByRecursion (IsSmall u (length (w.link u v).sent) steps) (w.link u v).sent

small_more : (u n k n2 k2 : ℕ) (ms : List Message) → n ≤ n2 → k ≤ k2 → AllByRecursion (IsSmall u n k) ms → AllByRecursion (IsSmall u n2 k2) ms
small_more u n k n2 k2 [] le le2 all = tt
small_more u n k n2 k2 (m ∷ ms) le le2 all = (record { sender = all.0.sender; short = all.0.short; number = omega (arith, all.0.number); stamp = omega (arith, all.0.stamp) }, small_more u n k n2 k2 ms le le2 all.1)

-- ---- what a turn sends

numbered-few : (u v n stamp : ℕ) (ss : List Send) → length (numbered u v n stamp ss) ≤ length ss
numbered-few u v n stamp [] = omega arith
numbered-few u v n stamp (s ∷ ss) =
    let one : Message = record { from = u; to = v; number = n + 1; stamp = stamp; bytes = s.bytes } in
    either (λ (ms : List Message). length ms ≤ suc (length ss)) (s.to == v) (one ∷ numbered u v (n + 1) stamp ss) (numbered u v n stamp ss) (omega (arith, numbered-few u v (n + 1) stamp ss)) (omega (arith, numbered-few u v n stamp ss))

numbered-nowhere : (nodes u v n stamp : ℕ) (ss : List Send) → nodes ≤ v → AllByRecursion (λ (s : Send). (s.to < nodes) × IsShortText s.bytes) ss → numbered u v n stamp ss ≡ []
numbered-nowhere nodes u v n stamp [] past known = refl
numbered-nowhere nodes u v n stamp (s ∷ ss) past known = rw (ne_eqb s.to v (λ e. omega (arith, known.0.0))) (numbered-nowhere nodes u v n stamp ss past known.1)

numbered-small : (nodes u v n stamp steps : ℕ) (ss : List Send) → stamp ≤ steps → AllByRecursion (λ (s : Send). (s.to < nodes) × IsShortText s.bytes) ss → AllByRecursion (IsSmall u (n + length (numbered u v n stamp ss)) steps) (numbered u v n stamp ss)
numbered-small nodes u v n stamp steps [] le known = tt
numbered-small nodes u v n stamp steps (s ∷ ss) le known =
    let one : Message = record { from = u; to = v; number = n + 1; stamp = stamp; bytes = s.bytes } in
    let later = numbered u v (n + 1) stamp ss in
    let count : n + 1 + length later ≡ n + suc (length later) = omega arith in
    let rest = subst (λ k. AllByRecursion (IsSmall u k steps) later) count (numbered-small nodes u v (n + 1) stamp steps ss le known.1) in
    either (λ (ms : List Message). AllByRecursion (IsSmall u (n + length ms) steps) ms) (s.to == v) (one ∷ later) (numbered u v n stamp ss)
    (record { sender = refl; short = known.0.1; number = omega arith; stamp = le }, rest) (numbered-small nodes u v n stamp steps ss le known.1)

-- ---- the start

inputs-few : (v n : ℕ) (is : List Input) → length (inputs_from v n is) ≤ length is
inputs-few v n [] = omega arith
inputs-few v n (i ∷ is) =
    let one : Message = record { from = outside; to = i.node; number = n + 1; stamp = 0; bytes = i.text } in
    either (λ (ms : List Message). length ms ≤ suc (length is)) (i.node == v) (one ∷ inputs_from v (n + 1) is) (inputs_from v n is) (omega (arith, inputs-few v (n + 1) is)) (omega (arith, inputs-few v n is))

inputs-nowhere : (nodes v n : ℕ) (is : List Input) → nodes ≤ v → AllByRecursion (λ (i : Input). (i.node < nodes) × (length i.text ≤ 512)) is → inputs_from v n is ≡ []
inputs-nowhere nodes v n [] past known = refl
inputs-nowhere nodes v n (i ∷ is) past known = rw (ne_eqb i.node v (λ e. omega (arith, known.0.0))) (inputs-nowhere nodes v n is past known.1)

inputs-small : (nodes v n : ℕ) (is : List Input) → AllByRecursion (λ (i : Input). (i.node < nodes) × (length i.text ≤ 512)) is → AllByRecursion (IsSmall outside (n + length (inputs_from v n is)) 0) (inputs_from v n is)
inputs-small nodes v n [] known = tt
inputs-small nodes v n (i ∷ is) known =
    let one : Message = record { from = outside; to = i.node; number = n + 1; stamp = 0; bytes = i.text } in
    let later = inputs_from v (n + 1) is in
    let count : n + 1 + length later ≡ n + suc (length later) = omega arith in
    let rest = subst (λ k. AllByRecursion (IsSmall outside k 0) later) count (inputs-small nodes v (n + 1) is known.1) in
    either (λ (ms : List Message). AllByRecursion (IsSmall outside (n + length ms) 0) ms) (i.node == v) (one ∷ later) (inputs_from v n is)
    (record { sender = refl; short = known.0.1; number = omega arith; stamp = omega arith }, rest) (inputs-small nodes v n is known.1)

sum-none : (a n : ℕ) → sum_by (λ v. 0) (range_with_len a n) ≡ 0
sum-none a zero = refl
sum-none a (suc n) = omega (arith, sum_by-cons (λ v. 0) a (range_with_len (a + 1) n), sum-none (a + 1) n)

pub within_start : (g : Game) → IsWithinLimits g → IsWithin g 0 (start g)
within_start g limits = record {
  comes = λ v. ComesTo.first;
  turns = λ v. omega arith;
  count = sym (sum-none 0 g.nodes);
  stamps = λ v. omega arith;
  outs = λ v. omega arith;
  nowhere = λ u v past. either (λ (ms : List Message). ms ≡ []) (u == outside) (inputs_for g v) [] (inputs-nowhere g.nodes v 0 g.inputs past limits.inputs) refl;
  strangers = λ u v past ne. rw (ne_eqb u outside ne) refl;
  few = λ u v. either (λ (ms : List Message). length ms ≤ length g.inputs + 16 * 0) (u == outside) (inputs_for g v) [] (omega (arith, inputs-few v 0 g.inputs)) (omega arith);
  mail = λ u v. cond_both (u == outside) (inputs_for g v) [] (λ (ms : List Message). AllByRecursion (IsSmall u (length ms) 0) ms)
      (λ same. subst (λ k. AllByRecursion (IsSmall k (length (inputs_for g v)) 0) (inputs_for g v)) (sym (eqb-true u outside same)) (small_more outside (0 + length (inputs_for g v)) 0 (length (inputs_for g v)) 0 (inputs_for g v) (omega arith) (omega arith) (inputs-small g.nodes v 0 g.inputs limits.inputs)))
      (λ other. tt);
}

-- ---- a step

pub some_of : {A : Type 0} (P : A → Type 0) (o : Option A) (x : A) → IfSome o P → o ≡ Some x → P x
some_of P None x holds is = absurd cc
some_of P (Some y) x holds is = let same : y ≡ x = cc in subst P same holds

module _ (g : Game) (limits : IsWithinLimits g) (keeps : KeepsLimits g.nodes g.size g.handler) (steps : ℕ) (w : Network) (s : Step) (t : Turn) (is : IsTurnOf g w s t) (old : IsWithin g steps w) where
  message : IsSmall s.from (length (w.link s.from s.node).sent) steps t.message
  message = all_at (IsSmall s.from (length (w.link s.from s.node).sent) steps) (w.link s.from s.node).sent (w.link s.from s.node).taken t.message (old.mail s.from s.node) is.next

  some_mail : 0 < length (w.link s.from s.node).sent
  some_mail = omega (arith, slice_get_within (w.link s.from s.node).sent (w.link s.from s.node).taken t.message is.next)

  -- its node is one of the run
  pub known : s.node < g.nodes
  known = ⊎_elim (λ lt. lt) (λ past. absurd (omega (arith, some_mail, ap length (old.nowhere s.from s.node past)))) (cases_lt s.node g.nodes)

  -- and so is the sender, or it is the outside
  from : (s.from < g.nodes) ⊎ (s.from ≡ outside)
  from =
      ⊎_elim inr (λ ne. ⊎_elim inl (λ past. absurd (omega (arith, some_mail, ap length (old.strangers s.from s.node past ne)))) (cases_lt s.from g.nodes)) (cases_eq s.from outside)

  pub sender : s.from ≤ outside
  sender = ⊎_elim (λ lt. omega (arith, lt, limits.few_nodes)) (λ (e : s.from ≡ outside). omega arith) from

  pub call : IsCall s.node g.nodes t.message s.draws
  call = record { placed = record { some_node = omega (arith, known); few_nodes = limits.few_nodes; known = known }; sender = subst (λ u. (u < g.nodes) ⊎ (u ≡ outside)) (sym message.sender) from; short = message.short; words = is.words }

  allowed : IsAllowed g.nodes t.effect
  allowed = some_of (IsAllowed g.nodes) (g.handler.after s.node g.nodes (w.place s.node).value t.message s.draws) t.effect (keeps s.node (w.place s.node).value t.message s.draws (old.comes s.node) call) is.effect

  pub stamp_at_most : t.stamp ≤ steps + 1
  stamp_at_most = omega (arith, is.stamp, old.stamps s.node, message.stamp)

  pub number_at_most : t.message.number ≤ length g.inputs + 16 * g.turns
  number_at_most =
      omega (arith, message.number, old.few s.from s.node, old.turns s.from)

  sends : (u v : ℕ) → List Message
  sends u v = numbered u v (length (w.link u v).sent) t.stamp t.effect.sends

  turns_after : (u : ℕ) → (w.place u).turns ≤ ((applied w s t).place u).turns
  turns_after u = either (λ (p : Place). (w.place u).turns ≤ p.turns) (u == s.node) (place_after (w.place u) t) (w.place u) (omega arith) (omega arith)

  pub within_applied : IsWithin g (steps + 1) (applied w s t)
  within_applied = record {
    comes = λ v. cond_both (v == s.node) (place_after (w.place v) t) (w.place v) (λ (p : Place). ComesTo g.handler v g.nodes g.size p.value)
        (λ same. subst (λ k. ComesTo g.handler k g.nodes g.size t.effect.value) (sym (eqb-true v s.node same)) (ComesTo.next (old.comes s.node) call is.effect))
        (λ other. old.comes v);
    turns = λ v. cond_both (v == s.node) (place_after (w.place v) t) (w.place v) (λ (p : Place). p.turns ≤ g.turns)
        (λ same. let e : v ≡ s.node = eqb-true v s.node same in let more = subst (λ k. (w.place k).turns < g.turns) (sym e) is.more in omega arith)
        (λ other. old.turns v);
    count = omega (arith, old.count, sum-one_more (λ v. (w.place v).turns) (λ v. ((applied w s t).place v).turns) s.node 0 g.nodes (λ k ne. rw (ne_eqb k s.node ne) refl) (rw (eq-eqb s.node s.node refl) refl) (omega arith) (omega (arith, known)));
    stamps = λ v. either (λ (p : Place). p.stamp ≤ steps + 1) (v == s.node) (place_after (w.place v) t) (w.place v) stamp_at_most (omega (arith, old.stamps v));
    outs = λ v. either (λ (p : Place). length p.outs ≤ 16 * p.turns) (v == s.node) (place_after (w.place v) t) (w.place v) (omega (arith, length-append (w.place v).outs t.effect.outs, old.outs v, allowed.few_outs)) (old.outs v);
    nowhere = λ u v past. either (λ (ms : List Message). ms ≡ []) (u == s.node) ((w.link u v).sent ++ numbered u v (length (w.link u v).sent) t.stamp t.effect.sends) (w.link u v).sent
        (rw (old.nowhere u v past) (numbered-nowhere g.nodes u v 0 t.stamp t.effect.sends past allowed.sends)) (old.nowhere u v past);
    strangers = λ u v past ne. rw (ne_eqb u s.node (λ e. omega (arith, known))) (old.strangers u v past ne);
    few = λ u v. cond_both (u == s.node) ((w.link u v).sent ++ numbered u v (length (w.link u v).sent) t.stamp t.effect.sends) (w.link u v).sent (λ (ms : List Message). length ms ≤ length g.inputs + 16 * ((applied w s t).place u).turns)
        (λ same. let is_turn : ((applied w s t).place u).turns ≡ (w.place u).turns + 1 = rw same refl in
        omega (arith, length-append (w.link u v).sent (numbered u v (length (w.link u v).sent) t.stamp t.effect.sends), old.few u v, numbered-few u v (length (w.link u v).sent) t.stamp t.effect.sends, allowed.few_sends))
        (λ other. omega (arith, old.few u v, turns_after u));
    mail = λ u v.
        let old_sent = (w.link u v).sent in
        let new_sent = numbered u v (length (w.link u v).sent) t.stamp t.effect.sends in
        let count = length-append old_sent new_sent in
        either (λ (ms : List Message). AllByRecursion (IsSmall u (length ms) (steps + 1)) ms) (u == s.node) (old_sent ++ new_sent) old_sent
        (all_append (IsSmall u (length (old_sent ++ new_sent)) (steps + 1)) old_sent new_sent
        (small_more u (length old_sent) steps (length (old_sent ++ new_sent)) (steps + 1) old_sent (omega arith) (omega arith) (old.mail u v))
        (small_more u (length old_sent + length new_sent) (steps + 1) (length (old_sent ++ new_sent)) (steps + 1) new_sent (omega arith) (omega arith) (numbered-small g.nodes u v (length old_sent) t.stamp (steps + 1) t.effect.sends stamp_at_most allowed.sends)))
        (small_more u (length old_sent) steps (length old_sent) (steps + 1) old_sent (omega arith) (omega arith) (old.mail u v));
  }

-- ---- a legal schedule

module _ (g : Game) (limits : IsWithinLimits g) (keeps : KeepsLimits g.nodes g.size g.handler) where
  -- the network after it
  pub within_played : (steps : ℕ) (w : Network) (stamp node : ℕ) (ss : List Step) → IsLegalFrom g w stamp node ss → IsWithin g steps w → IsWithin g (steps + length ss) (played g w ss)
  unfolding IsLegalFrom played
  within_played steps w stamp node [] legal within = subst (λ k. IsWithin g k w) (sym (add-zero steps)) within
  within_played steps w stamp node (s ∷ ss) legal within =
      let t = legal.0 in
      let is = turn_is g w s t legal.1 in
      let next = within_applied g limits keeps steps w s t is within in
      let count : steps + 1 + length ss ≡ steps + suc (length ss) = omega arith in
      rw legal.1 (subst (λ k. IsWithin g k (played g (applied w s t) ss)) count (within_played (steps + 1) (applied w s t) t.stamp s.node ss legal.4 next))

  -- it has few steps
  pub few_steps : (steps : ℕ) (w : Network) → IsWithin g steps w → steps ≤ 800000
  few_steps steps w within =
      let each : All (λ v. (w.place v).turns ≤ 100000) (nodes_of g) = All-from_get_or (λ v. (w.place v).turns ≤ 100000) (nodes_of g) 0 (λ i lt. omega (arith, within.turns (slice_index_or (nodes_of g) i 0), limits.few_turns)) in
      omega (arith, within.count, sum_by-le (λ v. (w.place v).turns) 100000 (nodes_of g) each, length-range_with_len 0 g.nodes, limits.few_nodes)

  -- and its lines can be printed
  pub printable_lines : (steps : ℕ) (w : Network) (stamp node : ℕ) (ss : List Step) → IsLegalFrom g w stamp node ss → IsWithin g steps w → steps + length ss < 2 ^ 64 → AllByRecursion IsPrintableTurn (turn_lines g w ss)
  unfolding IsLegalFrom turn_lines
  printable_lines steps w stamp node [] legal within small = tt
  printable_lines steps w stamp node (s ∷ ss) legal within small =
      let t = legal.0 in
      let is = turn_is g w s t legal.1 in
      let next = within_applied g limits keeps steps w s t is within in
      let here : IsPrintableTurn (turn_line s t) = record {
        stamp = omega (arith, stamp_at_most g limits keeps steps w s t is within);
        node = omega (arith, known g limits keeps steps w s t is within, limits.few_nodes);
        from = omega (arith, sender g limits keeps steps w s t is within);
        number = omega (arith, number_at_most g limits keeps steps w s t is within, limits.few_inputs, limits.few_turns);
        draws = is.words;
      } in
      rw legal.1 (here, printable_lines (steps + 1) (applied w s t) t.stamp s.node ss legal.4 next (omega arith))
