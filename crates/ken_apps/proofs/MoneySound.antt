-- What holds of the network of a bank's game at each step, beside its money.
use Rattle.std.proofs.Common.{◌≡◌, ℕ, zero, suc, ◌+◌, ◌<◌, ◌≤◌, ◌^◌, List, [], ◌∷◌, ◌++◌, length, Bool, true, false, ◌==◌, ◌&&◌, not, nat_lt, if◌then◌else◌, Option, Some, None, slice_get, refl, sym, ap, ◌∙◌, subst, arith, ne_eqb, lt-ltb, length-append}
use Rattle.std.specs.Prelude.{max, option_map, option_and_then}
use Rattle.std.specs.List.{AllByRecursion}
use Rattle.std.proofs.lemmas.Bool.{eqb-true, ltb-true}
use Rattle.std.proofs.lemmas.Bool.Decides.{nat_tests}
use Rattle.std.proofs.lemmas.Option.{slice_get_within}
use Rattle.ken_model.specs.declared.facts.Input.{Input}
use Rattle.ken_model.specs.declared.kinds.Kind.TheVariants.{Bank}
use Rattle.ken_model.specs.declared.messages.Message.{Message}
use Rattle.ken_model.specs.declared.messages.Send.{Send}
use Rattle.ken_model.specs.declared.messages.Step.{Step}
use Rattle.ken_model.specs.declared.messages.TheConstants.{OUTSIDE}
use Rattle.ken_model.specs.declared.values.Value.{Value}
use Rattle.ken_model.specs.Effects.{Effect}
use Rattle.ken_model.specs.Game.{Game}
use Rattle.ken_model.specs.Heap.{IsHeap}
use Rattle.ken_model.specs.Limits.{IsWithinLimits}
use Rattle.ken_model.specs.Network.{Network, Place, Turn, outside, start, front, are_words, numbered, inputs_from, inputs_for, turn_at, turn_of, place_after, applied}
use Rattle.ken_model.specs.Kinds.{after, without_draws}
use Rattle.ken_model.specs.Bank.{order_of, bank}
use Rattle.ken_model.proofs.Heaps.{heap_after}
use Rattle.ken_apps.specs.Money.{IsBank}
use Rattle.ken_apps.proofs.MoneySums.{and_both}

-- ---- a turn

-- the turn of a step: whose message comes next, and what the bank makes of it
pub record IsTurn (g : Game) (w : Network) (s : Step) (t : Turn) : Type 0 where
  pub few : (w.place s.node).turns < g.turns
  pub next : slice_get (w.link s.from s.node).sent (w.link s.from s.node).taken ≡ Some t.message
  pub made : g.handler.after s.node g.nodes (w.place s.node).value t.message s.draws ≡ Some t.effect

-- a message and its effect are a turn's
record IsMade (g : Game) (v : ℕ) (p : Place) (draws : List ℕ) (m : Message) (t : Turn) : Type 0 where
  message : m ≡ t.message
  made : g.handler.after v g.nodes p.value m draws ≡ Some t.effect

made_by : (g : Game) (v : ℕ) (p : Place) (draws : List ℕ) (m : Message) (t : Turn) (words : Bool) (o : Option Effect) → g.handler.after v g.nodes p.value m draws ≡ o
    → option_map (λ (e : Effect). record { message = m; draws = draws; stamp = max p.stamp m.stamp + 1; effect = e }) (if words then o else None) ≡ Some t → IsMade g v p draws m t
made_by g v p draws m t true None e is = absurd cc
made_by g v p draws m t true (Some x) e is =
    let same : record { message = m; draws = draws; stamp = max p.stamp m.stamp + 1; effect = x } ≡ t = cc in
    record { message = ap (λ (y : Turn). y.message) same; made = e ∙ ap (λ (y : Turn). Some y.effect) same }
made_by g v p draws m t false o e is = absurd cc

turn_at_made : (g : Game) (v : ℕ) (p : Place) (draws : List ℕ) (m : Message) (t : Turn) → turn_at g v p draws m ≡ Some t → IsMade g v p draws m t
unfolding turn_at
turn_at_made g v p draws m t is = made_by g v p draws m t (are_words draws) (g.handler.after v g.nodes p.value m draws) refl is

front_made : (g : Game) (v : ℕ) (p : Place) (draws : List ℕ) (o : Option Message) (t : Turn) → option_and_then (turn_at g v p draws) o ≡ Some t → (o ≡ Some t.message) × (g.handler.after v g.nodes p.value t.message draws ≡ Some t.effect)
front_made g v p draws None t is = absurd cc
front_made g v p draws (Some m) t is =
    let now = turn_at_made g v p draws m t is in
    (ap (λ x. Some x) now.message, subst (λ x. g.handler.after v g.nodes p.value x draws ≡ Some t.effect) now.message now.made)

left_made : (b : Bool) (o : Option Turn) (t : Turn) → (if b then o else None) ≡ Some t → (b ≡ true) × (o ≡ Some t)
left_made true o t is = (refl, is)
left_made false o t is = absurd cc

pub is_turn : (g : Game) (w : Network) (s : Step) (t : Turn) → turn_of g w s ≡ Some t → IsTurn g w s t
is_turn g w s t is =
    let left = left_made (nat_lt (w.place s.node).turns g.turns) (option_and_then (turn_at g s.node (w.place s.node) s.draws) (front (w.link s.from s.node))) t is in
    let now = front_made g s.node (w.place s.node) s.draws (front (w.link s.from s.node)) t left.1 in
    record { few = ltb-true (w.place s.node).turns g.turns left.0; next = now.0; made = now.1 }

without_made : (draws : List ℕ) (x e : Effect) → without_draws draws x ≡ Some e → (x ≡ e) × (draws ≡ [])
without_made [] x e is = (cc, refl)
without_made (d ∷ ds) x e is = absurd cc

-- what the bank makes of it
after_bank : (g : Game) (v : ℕ) (value : Value) (m : Message) (draws : List ℕ) (e : Effect) → IsBank g → g.handler.after v g.nodes value m draws ≡ Some e → after Bank v g.nodes value m draws ≡ Some e
after_bank g v value m draws e is made = sym (ap (λ h. h.after v g.nodes value m draws) is) ∙ made

bank_parts : (g : Game) (v : ℕ) (value : Value) (m : Message) (draws : List ℕ) (e : Effect) → after Bank v g.nodes value m draws ≡ Some e → (bank g.nodes value m (order_of m.bytes) ≡ e) × (draws ≡ [])
unfolding after
bank_parts g v value m draws e made = without_made draws (bank g.nodes value m (order_of m.bytes)) e made

pub bank_made : (g : Game) (v : ℕ) (value : Value) (m : Message) (draws : List ℕ) (e : Effect) → IsBank g → g.handler.after v g.nodes value m draws ≡ Some e → bank g.nodes value m (order_of m.bytes) ≡ e
bank_made g v value m draws e is made = (bank_parts g v value m draws e (after_bank g v value m draws e is made)).0

heap_made : (g : Game) (v : ℕ) (value : Value) (m : Message) (draws : List ℕ) (e : Effect) → IsBank g → IsHeap value → g.handler.after v g.nodes value m draws ≡ Some e → IsHeap e.value
heap_made g v value m draws e is heap made =
    let now = after_bank g v value m draws e is made in
    let none = (bank_parts g v value m draws e now).1 in
    heap_after Bank v g.nodes value m draws e heap (subst (AllByRecursion (λ d. d < 2 ^ 64)) (sym none) tt) now

-- ---- what holds at each step

-- a message on a link from a node isn't from outside, and no other message is from a node
abbrev pub IsFrom : Game → ℕ → Message → Type 0
IsFrom g u m = nat_lt u g.nodes ≡ not (m.from == OUTSIDE)

pub record IsSound (g : Game) (w : Network) : Type 0 where
  pub heaps : (v : ℕ) → IsHeap (w.place v).value
  pub turns : (v : ℕ) → (w.place v).turns ≤ g.turns
  pub taken : (u v : ℕ) → (w.link u v).taken ≤ length (w.link u v).sent
  pub senders : (u v : ℕ) → AllByRecursion (IsFrom g u) (w.link u v).sent

-- ---- at the start

outside_last : (g : Game) → IsWithinLimits g → nat_lt outside g.nodes ≡ false
outside_last g limits = let few = limits.few_nodes in grind (arith, nat_tests, few)

inputs_from_outside : (g : Game) (u v n : ℕ) (is : List Input) → nat_lt u g.nodes ≡ false → AllByRecursion (IsFrom g u) (inputs_from v n is)
inputs_from_outside g u v n [] past = tt
inputs_from_outside g u v n (i ∷ is) past = go (i.node == v) (inputs_from_outside g u v (n + 1) is past) (inputs_from_outside g u v n is past)
  where
    go : (b : Bool) → AllByRecursion (IsFrom g u) (inputs_from v (n + 1) is) → AllByRecursion (IsFrom g u) (inputs_from v n is) → AllByRecursion (IsFrom g u) (if b then record { from = outside; to = i.node; number = n + 1; stamp = 0; bytes = i.text } ∷ inputs_from v (n + 1) is else inputs_from v n is)
    go true later same = (past, later)
    go false later same = same

senders_first : (g : Game) (u v : ℕ) (b : Bool) → IsWithinLimits g → (b ≡ true → u ≡ outside) → AllByRecursion (IsFrom g u) (if b then inputs_for g v else [])
senders_first g u v true limits is = inputs_from_outside g u v 0 g.inputs (subst (λ k. nat_lt k g.nodes ≡ false) (sym (is refl)) (outside_last g limits))
senders_first g u v false limits is = tt

pub sound_first : (g : Game) → IsWithinLimits g → IsSound g (start g)
sound_first g limits = record {
  heaps = λ v. record { pages = limits.pages; root = omega arith; blocks = let pages = limits.pages in omega (arith, pages.1, pages.3) };
  turns = λ v. omega arith;
  taken = λ u v. omega arith;
  senders = λ u v. senders_first g u v (u == outside) limits (eqb-true u outside);
}

-- ---- after a step

pub all_append : (P : Message → Type 0) (xs ys : List Message) → AllByRecursion P xs → AllByRecursion P ys → AllByRecursion P (xs ++ ys)
all_append P [] ys first later = later
all_append P (x ∷ xs) ys first later = (first.0, all_append P xs ys first.1 later)

-- the message at a place
pub all_get : (P : Message → Type 0) (xs : List Message) (k : ℕ) (m : Message) → AllByRecursion P xs → slice_get xs k ≡ Some m → P m
all_get P [] k m all is = absurd cc
all_get P (x ∷ xs) zero m all is = let same : x ≡ m = cc in subst P same all.0
all_get P (x ∷ xs) (suc k) m all is = all_get P xs k m all.1 is

numbered_from : (g : Game) (u v n stamp : ℕ) (ss : List Send) → nat_lt u g.nodes ≡ not (u == OUTSIDE) → AllByRecursion (IsFrom g u) (numbered u v n stamp ss)
numbered_from g u v n stamp [] is = tt
numbered_from g u v n stamp (s ∷ ss) is = go (s.to == v) (numbered_from g u v (n + 1) stamp ss is) (numbered_from g u v n stamp ss is)
  where
    go : (b : Bool) → AllByRecursion (IsFrom g u) (numbered u v (n + 1) stamp ss) → AllByRecursion (IsFrom g u) (numbered u v n stamp ss) → AllByRecursion (IsFrom g u) (if b then record { from = u; to = v; number = n + 1; stamp = stamp; bytes = s.bytes } ∷ numbered u v (n + 1) stamp ss else numbered u v n stamp ss)
    go true later same = (is, later)
    go false later same = same

senders_more : (g : Game) (u v stamp : ℕ) (sent : List Message) (ss : List Send) (b : Bool) → (b ≡ true → nat_lt u g.nodes ≡ not (u == OUTSIDE)) → AllByRecursion (IsFrom g u) sent → AllByRecursion (IsFrom g u) (if b then sent ++ numbered u v (length sent) stamp ss else sent)
senders_more g u v stamp sent ss true is all = all_append (IsFrom g u) sent _ all (numbered_from g u v (length sent) stamp ss (is refl))
senders_more g u v stamp sent ss false is all = all

node_sends : (g : Game) (u : ℕ) → IsWithinLimits g → u < g.nodes → nat_lt u g.nodes ≡ not (u == OUTSIDE)
node_sends g u limits known =
    let few = limits.few_nodes in
    lt-ltb u g.nodes known ∙ ap not (sym (ne_eqb u OUTSIDE (λ e. omega (arith, e, few, known))))

taken_more : (sent new : List Message) (taken : ℕ) (takes sends : Bool) → taken ≤ length sent → (takes ≡ true → taken < length sent) → (if takes then taken + 1 else taken) ≤ length (if sends then sent ++ new else sent)
taken_more sent new taken true true few next = omega (arith, next refl, length-append sent new)
taken_more sent new taken true false few next = omega (arith, next refl)
taken_more sent new taken false true few next = omega (arith, few, length-append sent new)
taken_more sent new taken false false few next = few

heap_more : (p : Place) (t : Turn) (b : Bool) → IsHeap p.value → IsHeap t.effect.value → IsHeap (if b then place_after p t else p).value
heap_more p t true old new = new
heap_more p t false old new = old

turns_more : (p : Place) (t : Turn) (most : ℕ) (b : Bool) → p.turns ≤ most → (b ≡ true → p.turns < most) → (if b then place_after p t else p).turns ≤ most
turns_more p t most true few next = omega (arith, next refl)
turns_more p t most false few next = few

pub sound_after : (g : Game) (w : Network) (s : Step) (t : Turn) → IsBank g → IsWithinLimits g → s.node < g.nodes → IsTurn g w s t → IsSound g w → IsSound g (applied w s t)
sound_after g w s t is_bank limits known turn sound = record {
  heaps = λ v. heap_more (w.place v) t (v == s.node) (sound.heaps v) (heap_made g s.node (w.place s.node).value t.message s.draws t.effect is_bank (sound.heaps s.node) turn.made);
  turns = λ v. turns_more (w.place v) t g.turns (v == s.node) (sound.turns v) (λ is. subst (λ x. (w.place x).turns < g.turns) (sym (eqb-true v s.node is)) turn.few);
  taken = λ u v. taken_more (w.link u v).sent (numbered u v (length (w.link u v).sent) t.stamp t.effect.sends) (w.link u v).taken ((u == s.from) && (v == s.node)) (u == s.node) (sound.taken u v) (taken_next u v);
  senders = λ u v. senders_more g u v t.stamp (w.link u v).sent t.effect.sends (u == s.node) (λ is. node_sends g u limits (subst (λ x. x < g.nodes) (sym (eqb-true u s.node is)) known)) (sound.senders u v);
}
  where
    within : (w.link s.from s.node).taken < length (w.link s.from s.node).sent
    within = slice_get_within (w.link s.from s.node).sent (w.link s.from s.node).taken t.message turn.next

    taken_next : (u v : ℕ) → ((u == s.from) && (v == s.node)) ≡ true → (w.link u v).taken < length (w.link u v).sent
    taken_next u v is =
        let both = and_both (u == s.from) (v == s.node) is in
        subst (λ x. (w.link x v).taken < length (w.link x v).sent) (sym (eqb-true u s.from both.0)) (subst (λ x. (w.link s.from x).taken < length (w.link s.from x).sent) (sym (eqb-true v s.node both.1)) within)
