-- Two workers that each heard the other first.
use Rattle.std.specs.Prelude.{◌≡◌, ℕ, List, [], ◌∷◌, Bool, true, false, if◌then◌else◌}
use Rattle.ken_weave.specs.Workers.{Steps, Ends, Waits, IsInStep}
use Rattle.ken_weave.specs.Orders.{Woven}
use Rattle.ken_weave.specs.Laws.{HaveFronts, KeepRules}

-- a worker's one step
abbrev pub once : Bool → Bool → Type 0
once a b = (a ≡ false) × (b ≡ true)

-- and none
abbrev pub never : Bool → Bool → Type 0
never a b = ⊥

-- the first turn, where the step was made
abbrev pub first : Bool → List ℕ
first b = if b then 1 ∷ [] else []

-- the ends of a worker that hands over, or is handed, one turn at its step, and tells, or hears, of it at the same step
abbrev pub ends : Ends Bool ℕ ℕ
ends = record { turns = λ b. if b then 1 else 0; handed = first; told = first }

-- those of the handler at its other rings, by which it hears nothing
abbrev pub hushed : Ends Bool ℕ ℕ
hushed = record { turns = λ b. if b then 1 else 0; handed = first; told = λ b. [] }

-- and those of a worker that is handed nothing and tells nothing
abbrev pub idle : Ends Bool ℕ ℕ
idle = record { turns = λ b. 0; handed = λ b. []; told = λ b. [] }

abbrev pub HaveCrossed : Bool → Bool → Bool → Type 0
HaveCrossed = HaveFronts once once never ends ends hushed idle

-- a handler hears of its first turn at the step that makes it. All but that test holds of its step and of the patcher's, and of
-- the rings before both and after both, and yet neither step can come first
pub record StepsMayNotWeave : Type 0 where
  pub rules : KeepRules once once never ends ends hushed idle (λ (n : ℕ). n) (λ (n : ℕ). n)
  pub waits : Waits once hushed (λ (n : ℕ). n)
  pub turn : Steps once false (true ∷ []) true
  pub patch : Steps once false (true ∷ []) true
  pub send : Steps never false [] false
  pub in_step : IsInStep ends ends false false × IsInStep hushed idle false false
  pub starts : HaveCrossed false false false
  pub stops : HaveCrossed true true false
  pub no_order : Woven once once never HaveCrossed false false false (true ∷ []) (true ∷ []) [] true true false → ⊥
