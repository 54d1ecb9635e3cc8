-- Where nothing that is open falls in three passes, the run has ended.
use Rattle.std.proofs.Common.{◌≡◌, ◌≢◌, ℕ, zero, suc, ◌+◌, ◌-◌, ◌*◌, ◌^◌, ◌<◌, ◌≤◌, ◌⊎◌, inl, inr, ◌==◌, List, [], ◌∷◌, length, Some, slice_get, slice_index, refl, sym, ap, ◌∙◌, subst, ⊎_elim, arith, eq-eqb, ne_eqb}
use Rattle.std.specs.List.{AllByRecursion}
use Rattle.std.proofs.lemmas.Bool.{cases_lt}
use Rattle.ken_model.specs.declared.messages.Message.{Message}
use Rattle.ken_model.specs.declared.reports.Emission.{Emission}
use Rattle.ken_model.specs.Game.{Game}
use Rattle.ken_model.specs.Limits.{IsWithinLimits}
use Rattle.ken_model.specs.Network.{Turn, inputs_for, outside}
use Rattle.ken_net.specs.declared.inbox.TheConstants.{MAX_INBOX}
use Rattle.ken_record.specs.declared.effects.Effects.{Effects}
use Rattle.ken_core.specs.Accord.{Accord}
use Rattle.ken_core.specs.Clusters.{Cluster}
use Rattle.ken_core.specs.Nodes.{Node}
use Rattle.ken_core.specs.Packets.{Mail}
use Rattle.ken_core.specs.Turns.{consumed_from, mails_to, outs_of}
use Rattle.ken_core.proofs.Sent.{IsOf, sent_at}
use Rattle.ken_flow.specs.Groups.{group_of}
use Rattle.ken_flow.specs.Standstill.{Flow, HasPlaces, AreShort, Visited, VisitedTo, Passed, none, then, sent_on, waits_on, HasEnded}
use Rattle.ken_flow.specs.StandstillLaws.{AreLow, Stands}
use Rattle.ken_flow.proofs.Calls.{some_same, after_emits, is_idle, is_given}
use Rattle.ken_flow.proofs.Coming.{Cut, cut_at, IsAim, IsOldest, stays_oldest, walk, Rooms, keep_rooms, Comes, keep_coming, consumed, Answers, keep_answers, answered}
use Rattle.ken_flow.proofs.Groups.{sent_by_node, is_inside, consumed_by_node}
use Rattle.ken_flow.proofs.Lists.{if_yes, if_no}
use Rattle.ken_flow.proofs.Visits.{Falls, falls_on, nothing_falls, Calls, visited, visits}

-- ---- a message can't wait for a node with turns to make

-- a pass after which no less is open
pub record Quiet (g : Game) (f f2 : Flow) : Type 0 where
  pub places : HasPlaces g f
  pub pass : Passed g f f2
  pub back : Falls g f2 f

-- the visit of one node in it
pub record QuietVisit (g : Game) (v : ℕ) (f f2 : Flow) (c : Cut g v g.nodes f f2) : Type 0 where
  pub calls : Calls g f c.start
  pub start_back : Falls g c.start f
  pub end_back : Falls g c.end c.start
  pub after_back : Falls g f2 c.end

quiet_visit : (g : Game) (v : ℕ) (f f2 : Flow) (c : Cut g v g.nodes f f2) → Quiet g f f2 → QuietVisit g v f f2 c
quiet_visit g v f f2 c quiet =
    let before = visits g 0 v f c.start quiet.places c.before in
    let one = visited g v c.start c.end before.places c.visit in
    let after = visits g (v + 1) g.nodes c.end f2 one.places c.after in
    record {
      calls = before;
      start_back = falls_on g c.start c.end f one.falls (falls_on g c.end f2 f after.falls quiet.back);
      end_back = falls_on g c.end f2 c.start after.falls (falls_on g f2 f c.start quiet.back before.falls);
      after_back = falls_on g f2 f c.end quiet.back (falls_on g f c.start c.end before.falls one.falls);
    }

module _ (g : Game) (ts : ℕ → List Effects) (m : Message) (aim : IsAim g ts m) where
  -- what waits at the visit of node y, in the first pass, and in each later one
  abbrev First : ℕ → Flow → Type 0
  First y f = Rooms g ts m aim (λ w. MAX_INBOX) y f × Comes g ts m aim ⊥ y f

  abbrev room_for : ℕ → ℕ
  room_for w = 16 * (g.nodes - w)

  room_small : (w : ℕ) → w < g.nodes → room_for w + 16 * w ≤ 128
  room_small w low = omega (arith, low, aim.few_nodes)

  abbrev Later : ℕ → Flow → Type 0
  Later y f = Rooms g ts m aim room_for y f × Comes g ts m aim (Unit {0}) y f

  abbrev Both : Type 0 → ℕ → Flow → Type 0
  Both L y f = Later y f × Answers g ts m aim L y f

  keep_first : (y : ℕ) (f f2 : Flow) → Visited g y f f2 → y < g.nodes → HasPlaces g f → Falls g f2 f → IsOldest g ts m aim f → First y f → First (y + 1) f2
  keep_first y f f2 x low places back is have = (
    keep_rooms g ts m aim y f f2 x low places back is (λ w. MAX_INBOX) have.0,
    keep_coming g ts m aim ⊥ (λ w. MAX_INBOX) (λ never. absurd never) y f f2 x low places back is have.0 have.1,
  )

  keep_later : (y : ℕ) (f f2 : Flow) → Visited g y f f2 → y < g.nodes → HasPlaces g f → Falls g f2 f → IsOldest g ts m aim f → Later y f → Later (y + 1) f2
  keep_later y f f2 x low places back is have = (
    keep_rooms g ts m aim y f f2 x low places back is room_for have.0,
    keep_coming g ts m aim (Unit {0}) room_for (λ _. omega (arith, room_small m.to aim.to_low)) y f f2 x low places back is have.0 have.1,
  )

  keep_both : (L : Type 0) → m.number ≤ consumed g ts m aim → (y : ℕ) (f f2 : Flow) → Visited g y f f2 → y < g.nodes → HasPlaces g f → Falls g f2 f → IsOldest g ts m aim f → Both L y f → Both L (y + 1) f2
  keep_both L old y f f2 x low places back is have = (
    keep_later y f f2 x low places back is have.0,
    keep_answers g ts m aim room_for room_small old y f f2 x low places back is have.0.0 have.0.1 L have.1,
  )

  -- ---- from one pass to the next

  at_first : (f : Flow) → AreShort f.mail → First 0 f
  at_first f short = (
    record { made = λ w before. absurd (omega (arith, before)); ahead = λ w later few unmade. omega (arith, short w) },
    record { made = λ before order sent. absurd (omega (arith, before)); ahead = λ never later order. absurd never },
  )

  next_rooms : (most : ℕ → ℕ) (f : Flow) → Rooms g ts m aim most g.nodes f → Rooms g ts m aim room_for 0 f
  next_rooms most f rooms = record { made = λ w before few unmade. absurd (omega (arith, before)); ahead = λ w later few unmade. omega (arith, rooms.made w few few unmade) }

  next_comes : (L : Type 0) (f : Flow) → Comes g ts m aim L g.nodes f → Comes g ts m aim (Unit {0}) 0 f
  next_comes L f comes = record {
    made = λ before order sent. absurd (omega (arith, before));
    ahead = λ _ later order. ⊎_elim (λ (after : m.to ≤ m.from). comes.made aim.to_low after aim.from_low) (λ (before : m.from < 0). absurd (omega (arith, before))) order;
  }

  none_answered : (f : Flow) → Answers g ts m aim ⊥ 0 f
  none_answered f = record {
    room_made = λ before. absurd (omega (arith, before));
    room_ahead = λ never later. absurd never;
    made = λ order before sent. absurd (omega (arith, before));
    ahead = λ never later order. absurd never;
  }

  next_answers : (f : Flow) → Answers g ts m aim ⊥ g.nodes f → Answers g ts m aim (Unit {0}) 0 f
  next_answers f have = record {
    room_made = λ before. absurd (omega (arith, before));
    room_ahead = λ _ later. omega (arith, have.room_made aim.from_low);
    made = λ order before sent. absurd (omega (arith, before));
    ahead = λ _ later order. ⊎_elim (λ (after : m.from < m.to). have.made after aim.to_low aim.from_low) (λ (before : m.to < 0). absurd (omega (arith, before))) order;
  }

  -- ---- three passes

  module _ (f a b c : Flow) (one : Quiet g f a) (two : Quiet g a b) (three : Quiet g b c) (is : IsOldest g ts m aim f) (short : AreShort f.mail) where
    is_a : IsOldest g ts m aim a
    is_a = stays_oldest g ts m aim f a (visits g 0 g.nodes f a one.places one.pass) one.back is

    is_b : IsOldest g ts m aim b
    is_b = stays_oldest g ts m aim a b (visits g 0 g.nodes a b two.places two.pass) two.back is_a

    second : Later 0 a
    second =
        let have = walk g ts m aim First keep_first g.nodes f a one.pass (omega arith) one.places one.back is (at_first f short) in
        (next_rooms (λ w. MAX_INBOX) a have.0, next_comes ⊥ a have.1)

    -- what was consumed is acknowledged
    all_acked : m.number ≤ consumed g ts m aim → consumed g ts m aim ≤ m.number - 1
    all_acked old =
        let after = walk g ts m aim (Both ⊥) (keep_both ⊥ old) g.nodes a b two.pass (omega arith) two.places two.back is_a (second, none_answered a) in
        let third : Both (Unit {0}) 0 b = ((next_rooms room_for b after.0.0, next_comes (Unit {0}) b after.0.1), next_answers b after.1) in
        let cut = cut_at g m.from g.nodes b c three.pass aim.from_low in
        let q = quiet_visit g m.from b c cut three in
        let have = walk g ts m aim (Both (Unit {0})) (keep_both (Unit {0}) old) m.from b cut.start cut.before (omega (arith, aim.from_low)) three.places q.start_back is_b third in
        let here = stays_oldest g ts m aim b cut.start q.calls q.start_back is_b in
        answered g ts m aim room_for room_small old m.from cut.start cut.end cut.visit aim.from_low q.calls.places q.end_back here have.0.0 have.0.1 refl have.1

    -- so it is the next one, which was given: it has a high stamp
    pub is_late : 0 < m.number → m.number - 1 ≤ consumed g ts m aim → 2 ^ 63 ≤ m.stamp
    is_late some known =
        let cut = cut_at g m.to g.nodes a b two.pass aim.to_low in
        let q = quiet_visit g m.to a b cut two in
        let have = walk g ts m aim Later keep_later m.to a cut.start cut.before (omega (arith, aim.to_low)) two.places q.start_back is_a second in
        let here = stays_oldest g ts m aim a cut.start q.calls q.start_back is_a in
        let d = is_idle g m.to cut.start cut.end cut.visit aim.to_low q.calls.places q.end_back (omega (arith, aim.unmade, ap length (here.turns m.to))) in
        let given = is_given g m.to cut.start cut.end cut.visit aim.to_low q.calls.places q.end_back d (Mail m) (have.1.ahead tt (omega arith) order) in
        let count : consumed_from m.from (cut.start.nodes m.to).turning.turns ≡ consumed g ts m aim = ap (consumed_from m.from) (here.turns m.to) in
        d.none_next m given refl (omega (arith, count, some, known, next))
      where
        next : consumed g ts m aim ≤ m.number - 1
        next = ⊎_elim (λ (less : consumed g ts m aim < m.number). omega (arith, less)) (λ old. all_acked old) (cases_lt (consumed g ts m aim) m.number)

        order : (m.to ≤ m.from) ⊎ (m.from < m.to)
        order = ⊎_elim (λ (after : m.from < m.to). inr after) (λ before. inl before) (cases_lt m.from m.to)

-- ---- the law

-- where a list has so many elements, it has one at each place
has_at : {A : Type 0} (xs : List A) (k : ℕ) → k < length xs → (x : A) × (slice_get xs k ≡ Some x)
has_at [] k low = absurd (omega (arith, low))
has_at (x ∷ xs) zero low = (x, refl)
has_at (x ∷ xs) (suc k) low = has_at xs k (omega (arith, low))

holds_at : {A : Type 0} (P : A → Type 0) (xs : List A) (k : ℕ) (x : A) → AllByRecursion P xs → slice_get xs k ≡ Some x → P x
holds_at P [] k x all is = absurd cc
holds_at P (y ∷ ys) zero x all is = subst P (some_same y x is) all.0
holds_at P (y ∷ ys) (suc k) x all is = holds_at P ys k x all.1 is

-- the visits of other nodes leave a node as it is
rises : (g : Game) (s e : ℕ) (f f2 : Flow) → VisitedTo g s e f f2 → s ≤ e
rises g s e f f2 (none at) = omega arith
rises g s e f f2 (then {u = u} {f = first} {mid = mid} {f2 = last} before visit) = omega (arith, rises g s u first mid before)

not_visited : (g : Game) (v y : ℕ) (f f2 : Flow) → Visited g y f f2 → v ≢ y → f2.nodes v ≡ f.nodes v
not_visited g v y f f2 x other =
    x.emits.no_turn.others v other ∙ x.hears.no_turn.others v other ∙ x.posts.no_turn.others v other ∙ x.writes.no_turn.others v other ∙ x.rests.no_turn.others v other

stays_node : (g : Game) (v s e : ℕ) (f f2 : Flow) → VisitedTo g s e f f2 → v < s → f2.nodes v ≡ f.nodes v
stays_node g v s e f f2 (none at) low = refl
stays_node g v s e f f2 (then {u = u} {f = first} {mid = mid} {f2 = last} before visit) low =
    not_visited g v u mid last visit (λ same. absurd (omega (arith, same, low, rises g s u first mid before))) ∙ stays_node g v s u first mid before low

module _ (g : Game) (emissions : List Emission) (f a b c : Flow) (limits : IsWithinLimits g) (places : HasPlaces g f) (short : AreShort f.mail) (accord : Accord g (group_of g f.nodes emissions)) (low : AreLow g f.nodes) (s : Stands g f a b c) where
  one_calls : Calls g f a
  one_calls = visits g 0 g.nodes f a places s.first

  two_calls : Calls g a b
  two_calls = visits g 0 g.nodes a b one_calls.places s.second

  three_calls : Calls g b c
  three_calls = visits g 0 g.nodes b c two_calls.places s.third

  to_b : Falls g f b
  to_b = falls_on g f a b one_calls.falls two_calls.falls

  back : Falls g c f
  back = nothing_falls g f c (falls_on g f b c to_b three_calls.falls) s.same

  one : Quiet g f a
  one = record { places = places; pass = s.first; back = falls_on g a b f two_calls.falls (falls_on g b c f three_calls.falls back) }

  two : Quiet g a b
  two = record { places = one_calls.places; pass = s.second; back = falls_on g b c a three_calls.falls (falls_on g c f a back one_calls.falls) }

  three : Quiet g b c
  three = record { places = two_calls.places; pass = s.third; back = falls_on g c f b back to_b }

  abbrev ts : ℕ → List Effects
  ts v = (f.nodes v).turning.turns

  last_turns : (v : ℕ) → (c.nodes v).turning.turns ≡ ts v
  last_turns v = three_calls.turns v ∙ two_calls.turns v ∙ one_calls.turns v

  -- no output is due
  emitted : (v : ℕ) → v < g.nodes → length (outs_of (c.nodes v).turning.turns) ≤ (c.nodes v).sending.emitted
  emitted v few =
      let cut = cut_at g v g.nodes b c s.third few in
      let q = quiet_visit g v b c cut three in
      let end_back = after_emits g v cut.start cut.end cut.visit few q.calls.places q.end_back in
      let all : length (outs_of (cut.end.nodes v).turning.turns) ≤ (cut.end.nodes v).sending.emitted = elim cut.visit.emits.how [
        | inl less ↦ absurd (omega (arith, less, end_back.outs v few))
        | inr done ↦ done.1
      ] in
      subst (λ (n : Node). length (outs_of n.turning.turns) ≤ n.sending.emitted) (sym (stays_node g v (v + 1) g.nodes cut.end c cut.after (omega arith))) all

  -- no input waits for a node with turns to make
  no_input : (v : ℕ) → v < g.nodes → length (ts v) < g.turns → length (inputs_for g v) ≤ consumed_from outside (ts v)
  no_input v few unmade =
      let cut = cut_at g v g.nodes b c s.third few in
      let q = quiet_visit g v b c cut three in
      let turns : (cut.start.nodes v).turning.turns ≡ ts v = q.calls.turns v ∙ two_calls.turns v ∙ one_calls.turns v in
      let d = is_idle g v cut.start cut.end cut.visit few q.calls.places q.end_back (omega (arith, unmade, ap length turns)) in
      omega (arith, d.no_input, ap (consumed_from outside) turns)

  -- nor a message: the oldest that isn't acknowledged would have a high stamp
  module _ (u v : ℕ) (from : u < g.nodes) (to : v < g.nodes) (unmade : length (ts v) < g.turns) (some : consumed_from u (ts v) < length (mails_to u v (ts u))) where
    abbrev h : ℕ → List Turn
    h = accord.history

    abbrev w : Cluster
    w = group_of g f.nodes emissions

    abbrev acked : ℕ
    acked = slice_index (f.nodes u).sending.acked v

    known : acked ≤ consumed_from u (ts v)
    known = omega (arith, (accord.made.nodes u).acked.most v, consumed_by_node g w accord v u)

    waits : acked < length (mails_to u v (ts u))
    waits = omega (arith, known, some)

    module _ (m : Message) (stands : slice_get (mails_to u v (ts u)) acked ≡ Some m) where
      at : IsOf u v (0 + acked + 1) m
      at = sent_at u v 0 (h u) acked m (ap (λ ms. slice_get ms acked) (sym (sent_by_node g w accord u v)) ∙ stands)

      number : m.number - 1 ≡ acked
      number = omega (arith, at.counted)

      sent_same : mails_to m.from m.to (ts m.from) ≡ mails_to u v (ts u)
      sent_same = ap (λ (k : ℕ). mails_to k m.to (ts k)) at.from ∙ ap (λ (k : ℕ). mails_to u k (ts u)) at.to

      aim : IsAim g ts m
      aim = record {
        few_nodes = limits.few_nodes;
        from_low = omega (arith, from, at.from);
        to_low = omega (arith, to, at.to);
        unmade = omega (arith, unmade, ap (λ (k : ℕ). length (ts k)) at.to);
        stands = ap (λ ms. slice_get ms (m.number - 1)) sent_same ∙ ap (slice_get (mails_to u v (ts u))) number ∙ stands;
        waits = omega (arith, waits, number, ap length sent_same);
      }

      oldest : IsOldest g ts m aim f
      oldest = record {
        turns = λ x. refl;
        acked = ap (λ (k : ℕ). slice_index (f.nodes k).sending.acked m.to) at.from ∙ ap (slice_index (f.nodes u).sending.acked) at.to ∙ sym number;
      }

      count : consumed g ts m aim ≡ consumed_from u (ts v)
      count = ap (λ (k : ℕ). consumed_from k (ts m.to)) at.from ∙ ap (λ (k : ℕ). consumed_from u (ts k)) at.to

      never : ⊥
      never =
          let late = is_late g ts m aim f a b c one two three oldest short (omega (arith, at.counted)) (omega (arith, known, number, count)) in
          absurd (omega (arith, late, holds_at (λ (x : Message). x.stamp < 2 ^ 63) (mails_to u v (ts u)) acked m (low u v from) stands))

  no_mail : (u v : ℕ) → u < g.nodes → v < g.nodes → length (ts v) < g.turns → length (mails_to u v (ts u)) ≤ consumed_from u (ts v)
  no_mail u v from to unmade =
      ⊎_elim
      (λ (some : consumed_from u (ts v) < length (mails_to u v (ts u))). let it = has_at (mails_to u v (ts u)) (acked u v from to unmade some) (waits u v from to unmade some) in absurd (never u v from to unmade some it.0 it.1))
      (λ none. none)
      (cases_lt (consumed_from u (ts v)) (length (mails_to u v (ts u))))

  nothing_waits : (u v : ℕ) → (u < g.nodes) ⊎ (u ≡ outside) → v < g.nodes → length (ts v) < g.turns → waits_on g c.nodes u v ≤ 0
  nothing_waits u v (inl node) to unmade =
      let sent : sent_on g c.nodes u v ≡ mails_to u v (c.nodes u).turning.turns = if_no (u == outside) (inputs_for g v) (mails_to u v (c.nodes u).turning.turns) (ne_eqb u outside (is_inside g (group_of g f.nodes emissions) accord u node)) in
      omega (arith, ap length sent, ap (λ es. length (mails_to u v es)) (last_turns u), ap (consumed_from u) (last_turns v), no_mail u v node to unmade)
  nothing_waits u v (inr out) to unmade =
      let sent : sent_on g c.nodes u v ≡ inputs_for g v = if_yes (u == outside) (inputs_for g v) (mails_to u v (c.nodes u).turning.turns) (eq-eqb u outside out) in
      omega (arith, ap length sent, ap (consumed_from u) (last_turns v), ap (λ (k : ℕ). consumed_from k (ts v)) out, no_input v to unmade)

  pub has_ended : (emissions2 : List Emission) → Accord g (group_of g c.nodes emissions2) → HasEnded g emissions2 c.nodes
  has_ended emissions2 accord2 = record {
    emitted = λ v few. omega (arith, emitted v few, (accord2.made.nodes v).emitted);
    waits = λ u v from to some. ⊎_elim
        (λ (unmade : length (ts v) < g.turns). absurd (omega (arith, some, nothing_waits u v from to unmade)))
        (λ made. omega (arith, made, ap length (last_turns v)))
        (cases_lt (length (ts v)) g.turns);
  }
