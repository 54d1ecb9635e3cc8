-- Workers that run side by side, with rings between them.
use Rattle.std.specs.Prelude.{◌≡◌, ℕ, ◌+◌, ◌≤◌, List, [], ◌∷◌, ◌++◌, length}
use Rattle.std.specs.List.{AllByRecursion}
use Rattle.ken_model.specs.History.{IsPrefixOf}

-- steps of a worker, one after the other, with the state that each led to
pub data Steps {W : Type 0} (step : W → W → Type 0) : W → List W → W → Type 0 where
  none : {a : W} → Steps step a [] a
  then : {a b c : W} {bs : List W} → step a b → Steps step b bs c → Steps step a (b ∷ bs) c

-- a worker's ends of two rings between a handler and a worker beside it: one by which turns are handed over, and one by which
-- news of them are told
pub record Ends (W K N : Type 0) : Type 0 where
  -- how many turns it has made, or has been handed
  pub turns : W → ℕ
  -- all that it has pushed, or popped, of the turns
  pub handed : W → List K
  -- all that it has popped, or pushed, of the news
  pub told : W → List N

module _ {W K N : Type 0} (step : W → W → Type 0) (ends : Ends W K N) where
  -- a step takes nothing back, and counts each turn
  pub record Counts : Type 0 where
    pub turns : (a b : W) → step a b → (items : List K) × ((ends.handed b ≡ ends.handed a ++ items) × (ends.turns b ≡ ends.turns a + length items))
    pub news : (a b : W) → step a b → IsPrefixOf (ends.told a) (ends.told b)

  -- what a step tells stands with no fewer turns than were handed over by then
  abbrev pub Tells : (N → ℕ) → Type 0
  Tells by = (a b : W) → step a b → (news : List N) → ends.told b ≡ ends.told a ++ news → AllByRecursion (λ (n : N). ends.turns b ≤ by n) news

  -- what a step hears stands with no more turns than were made before it
  abbrev pub Waits : (N → ℕ) → Type 0
  Waits by = (a b : W) → step a b → (news : List N) → ends.told b ≡ ends.told a ++ news → AllByRecursion (λ (n : N). by n ≤ ends.turns a) news

-- a handler, and a worker beside it
module _ {T W K N : Type 0} (handler : Ends T K N) (beside : Ends W K N) where
  -- only what was pushed has left the rings between them
  pub record AreFronts (t : T) (w : W) : Type 0 where
    pub handed : IsPrefixOf (beside.handed w) (handler.handed t)
    pub told : IsPrefixOf (handler.told t) (beside.told w)

  -- the one has been handed all turns that the other made, but for those in the ring
  abbrev pub IsInStep : T → W → Type 0
  IsInStep t w = beside.turns w + length (handler.handed t) ≡ handler.turns t + length (beside.handed w)
