-- Lists with drawn items behind them: the steps of the loops that make them, and what holds of each item.
use Rattle.std.proofs.Common.{◌≡◌, ◌∙◌, ℕ, zero, suc, ◌+◌, ◌-◌, ◌<◌, ◌≤◌, List, [], ◌∷◌, ◌++◌, Bool, true, false, if◌then◌else◌, refl, sym, ap, arith}
use Rattle.std.specs.List.{AllByRecursion}
use Rattle.ken_gen.specs.Torments.{added, items_from, past_items}

-- ---- the loops

items_next : {T : Type 0} (at : ℕ → T) (next : ℕ → ℕ) (count made x : ℕ) → made < count → items_from at next (count - made) x ≡ at x ∷ items_from at next (count - (made + 1)) (next x)
unfolding items_from
items_next at next count made x less = let e : count - made ≡ suc (count - (made + 1)) = omega arith in rw e refl

items_none : {T : Type 0} (at : ℕ → T) (next : ℕ → ℕ) (count made x : ℕ) → count ≤ made → items_from at next (count - made) x ≡ []
unfolding items_from
items_none at next count made x over = let e : count - made ≡ 0 = omega arith in rw e refl

added_one : {T : Type 0} (may : List T → T → Bool) (there : List T) (x : T) (xs : List T) → added may there (x ∷ xs) ≡ added may (if may there x then there ++ x ∷ [] else there) xs
unfolding added
added_one may there x xs = refl

added_none : {T : Type 0} (may : List T → T → Bool) (there xs : List T) → xs ≡ [] → added may there xs ≡ there
unfolding added
added_none may there xs is = rw is refl

-- with one more item drawn and looked at, what is still to come is added to what stands there now
added_on : {T : Type 0} (may : List T → T → Bool) (at : ℕ → T) (next : ℕ → ℕ) (count made x : ℕ) (there whole : List T) → made < count
    → added may there (items_from at next (count - made) x) ≡ whole
    → added may (if may there (at x) then there ++ at x ∷ [] else there) (items_from at next (count - (made + 1)) (next x)) ≡ whole
added_on may at next count made x there whole less e =
    sym (ap (added may there) (items_next at next count made x less) ∙ added_one may there (at x) (items_from at next (count - (made + 1)) (next x))) ∙ e

-- the same by the item, the state, the test and the list that a loop's turn has come to
pub stepped : {T : Type 0} (may : List T → T → Bool) (at : ℕ → T) (next : ℕ → ℕ) (count made x : ℕ) (there new whole : List T) (item : T) (state : ℕ) (can : Bool)
    → made < count → item ≡ at x → state ≡ next x → can ≡ may there item → new ≡ (if can then there ++ item ∷ [] else there)
    → added may there (items_from at next (count - made) x) ≡ whole → added may new (items_from at next (count - (made + 1)) state) ≡ whole
stepped may at next count made x there new whole item state can less item_is state_is can_is new_is e =
    rw (new_is, can_is, item_is, state_is) (added_on may at next count made x there whole less e)

pub added_done : {T : Type 0} (may : List T → T → Bool) (at : ℕ → T) (next : ℕ → ℕ) (count made x : ℕ) (there : List T) → count ≤ made → added may there (items_from at next (count - made) x) ≡ there
added_done may at next count made x there over = added_none may there (items_from at next (count - made) x) (items_none at next count made x over)

pub past_on : (next : ℕ → ℕ) (count made x : ℕ) → made < count → past_items next (count - made) x ≡ past_items next (count - (made + 1)) (next x)
unfolding past_items
past_on next count made x less = let e : count - made ≡ suc (count - (made + 1)) = omega arith in rw e refl

pub past_done : (next : ℕ → ℕ) (count made x : ℕ) → count ≤ made → past_items next (count - made) x ≡ x
unfolding past_items
past_done next count made x over = let e : count - made ≡ 0 = omega arith in rw e refl

-- ---- what holds of each item

all_more : {T : Type 0} (P : T → Type 0) (xs : List T) (x : T) → AllByRecursion P xs → P x → AllByRecursion P (xs ++ x ∷ [])
all_more P [] x all here = (here, tt)
all_more P (y ∷ ys) x all here = (all.0, all_more P ys x all.1 here)

pub all_items : {T : Type 0} (P : T → Type 0) (at : ℕ → T) (next : ℕ → ℕ) → ((x : ℕ) → P (at x)) → (count x : ℕ) → AllByRecursion P (items_from at next count x)
unfolding items_from
all_items P at next each zero x = tt
all_items P at next each (suc count) x = (each x, all_items P at next each count (next x))

pub all_added : {T : Type 0} (P : T → Type 0) (may : List T → T → Bool) (there xs : List T) → AllByRecursion P there → AllByRecursion P xs → AllByRecursion P (added may there xs)
unfolding added
all_added P may there [] all more = all
all_added P may there (x ∷ xs) all more = all_added P may (if may there x then there ++ x ∷ [] else there) xs (go (may there x)) more.1
  where
    go : (b : Bool) → AllByRecursion P (if b then there ++ x ∷ [] else there)
    go true = all_more P there x all more.0
    go false = all
