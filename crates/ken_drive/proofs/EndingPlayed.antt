-- The turn of a step, and what of it can be printed: draws and heaps.
use Rattle.std.proofs.Common.{◌≡◌, ℕ, zero, suc, ◌+◌, ◌<◌, ◌≤◌, ◌^◌, max, List, [], ◌∷◌, ◌++◌, length, slice_get, Bool, ◌&&◌, true, false, if◌then◌else◌, nat_lt, Option, Some, None, option_map, option_and_then, refl, sym, ap, subst, arith, ltb-true}
use Rattle.std.specs.List.{AllByRecursion}
use Rattle.ken_model.specs.declared.messages.Message.{Message}
use Rattle.ken_model.specs.declared.messages.Step.{Step}
use Rattle.ken_model.specs.declared.values.Block.{Block}
use Rattle.ken_model.specs.declared.values.Value.{Value}
use Rattle.ken_model.specs.Effects.{Effect}
use Rattle.ken_model.specs.Game.{Game}
use Rattle.ken_model.specs.Heap.{IsHeap}
use Rattle.ken_model.specs.Network.{Network, Place, Turn, are_words, handled, turn_at, turn_of, applied}
use Rattle.ken_model.specs.Schedule.{IsLegalFrom}
use Rattle.ken_model.specs.Spelling.{IsWord, IsPrintableHeap}
use Rattle.ken_model.proofs.Heaps.{blocks-within}

pub all_append : {A : Type 0} (P : A → Type 0) (xs ys : List A) → AllByRecursion P xs → AllByRecursion P ys → AllByRecursion P (xs ++ ys)
all_append P [] ys all more = more
all_append P (x ∷ xs) ys all more = (all.0, all_append P xs ys all.1 more)

pub all_at : {A : Type 0} (P : A → Type 0) (xs : List A) (k : ℕ) (x : A) → AllByRecursion P xs → slice_get xs k ≡ Some x → P x
all_at P [] k x all is = absurd cc
all_at P (y ∷ xs) zero x all is = let same : y ≡ x = cc in subst P same all.0
all_at P (y ∷ xs) (suc k) x all is = all_at P xs k x all.1 is

-- what holds of both holds of one
pub either : {A : Type 0} (P : A → Type 0) (c : Bool) (x y : A) → P x → P y → P (if c then x else y)
either P true x y px py = px
either P false x y px py = py

-- ---- the turn of a step

words_of : (draws : List ℕ) → are_words draws ≡ true → AllByRecursion IsWord draws
words_of [] words = tt
words_of (d ∷ ds) words = one (nat_lt d (2 ^ 64)) refl words (words_of ds)
  where
    one : (b : Bool) → nat_lt d (2 ^ 64) ≡ b → (b && are_words ds) ≡ true → (are_words ds ≡ true → AllByRecursion IsWord ds) → IsWord d × AllByRecursion IsWord ds
    one true is all more = (ltb-true d (2 ^ 64) is, more all)
    one false is all more = absurd cc

-- the node makes more turns, the turn's message comes next, its draws are words, and its effect is the handler's
pub record IsTurnOf (g : Game) (w : Network) (s : Step) (t : Turn) : Type 0 where
  pub more : (w.place s.node).turns < g.turns
  pub stamp : t.stamp ≡ max (w.place s.node).stamp t.message.stamp + 1
  pub next : slice_get (w.link s.from s.node).sent (w.link s.from s.node).taken ≡ Some t.message
  pub words : AllByRecursion IsWord s.draws
  pub effect : g.handler.after s.node g.nodes (w.place s.node).value t.message s.draws ≡ Some t.effect

-- what a handler makes of draws that are words
record IsHandled (h : Option Effect) (draws : List ℕ) (e : Effect) : Type 0 where
  words : AllByRecursion IsWord draws
  effect : h ≡ Some e

handled_by : (h : Option Effect) (draws : List ℕ) (e : Effect) → (if are_words draws then h else None) ≡ Some e → IsHandled h draws e
handled_by h draws e is = by (are_words draws) refl is
  where
    by : (b : Bool) → are_words draws ≡ b → (if b then h else None) ≡ Some e → IsHandled h draws e
    by true words same = record { words = words_of draws words; effect = same }
    by false words same = absurd cc

effect_of : (p : Place) (draws : List ℕ) (m : Message) (o : Option Effect) (t : Turn) → option_map (λ (e : Effect). record { message = m; draws = draws; stamp = max p.stamp m.stamp + 1; effect = e }) o ≡ Some t → (m ≡ t.message) × (o ≡ Some t.effect) × (t.stamp ≡ max p.stamp m.stamp + 1)
effect_of p draws m None t is = absurd cc
effect_of p draws m (Some e) t is =
    let same : record { message = m; draws = draws; stamp = max p.stamp m.stamp + 1; effect = e } ≡ t = cc in
    (ap (λ (x : Turn). x.message) same, ap (λ (x : Turn). Some x.effect) same, sym (ap (λ (x : Turn). x.stamp) same))

pub turn_is : (g : Game) (w : Network) (s : Step) (t : Turn) → turn_of g w s ≡ Some t → IsTurnOf g w s t
unfolding turn_at
turn_is g w s t is = few (nat_lt (w.place s.node).turns g.turns) refl is
  where
    at : (w.place s.node).turns < g.turns → (o : Option Message) → slice_get (w.link s.from s.node).sent (w.link s.from s.node).taken ≡ o → option_and_then (turn_at g s.node (w.place s.node) s.draws) o ≡ Some t → IsTurnOf g w s t
    at more None next made = absurd cc
    at more (Some m) next made =
        let parts = effect_of (w.place s.node) s.draws m (handled g s.node (w.place s.node).value m s.draws) t made in
        let handled = handled_by (g.handler.after s.node g.nodes (w.place s.node).value m s.draws) s.draws t.effect parts.1 in
        subst (λ (x : Message). slice_get (w.link s.from s.node).sent (w.link s.from s.node).taken ≡ Some x → g.handler.after s.node g.nodes (w.place s.node).value x s.draws ≡ Some t.effect → t.stamp ≡ max (w.place s.node).stamp x.stamp + 1 → IsTurnOf g w s t) (sym parts.0)
        (λ n e stamp. record { more = more; stamp = stamp; next = n; words = handled.words; effect = e }) next handled.effect parts.2

    few : (b : Bool) → nat_lt (w.place s.node).turns g.turns ≡ b → (if b then option_and_then (turn_at g s.node (w.place s.node) s.draws) (slice_get (w.link s.from s.node).sent (w.link s.from s.node).taken) else None) ≡ Some t → IsTurnOf g w s t
    few true more made = at (ltb-true (w.place s.node).turns g.turns more) (slice_get (w.link s.from s.node).sent (w.link s.from s.node).taken) refl made
    few false more made = absurd cc

-- the draws of a legal schedule are words
pub legal_words : (g : Game) (w : Network) (stamp node : ℕ) (ss : List Step) → IsLegalFrom g w stamp node ss → AllByRecursion (λ (s : Step). AllByRecursion IsWord s.draws) ss
unfolding IsLegalFrom
legal_words g w stamp node [] legal = tt
legal_words g w stamp node (s ∷ ss) legal = ((turn_is g w s legal.0 legal.1).words, legal_words g (applied w s legal.0) legal.0.stamp s.node ss legal.4)

-- ---- heaps

-- the places and lengths of a heap's blocks are words
words_within : (size : ℕ) (bs : List Block) → size < 2 ^ 64 → AllByRecursion (λ (b : Block). b.place + length b.bytes ≤ size) bs → AllByRecursion (λ (b : Block). IsWord b.place × IsWord (length b.bytes)) bs
words_within size [] small within = tt
words_within size (b ∷ bs) small within = ((omega (arith, within.0), omega (arith, within.0)), words_within size bs small within.1)

pub printable_heap : (v : Value) → IsHeap v → IsPrintableHeap v
printable_heap v heap = record {
  root = heap.root;
  blocks = words_within v.size v.blocks (omega (arith, heap.pages.2, heap.pages.3)) (blocks-within 16 v.size v.blocks heap.blocks);
}
