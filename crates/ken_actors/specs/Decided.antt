-- Handlers whose draws come one by one.
use Rattle.std.specs.Prelude.{◌≡◌, ℕ, List, [], ◌∷◌, ◌++◌, Bool, true, false, Option, Some, IsSome}
use Rattle.ken_model.specs.declared.kinds.Kind.{Kind}
use Rattle.ken_model.specs.declared.kinds.Kind.TheVariants.{Mix}
use Rattle.ken_model.specs.declared.messages.Message.{Message}
use Rattle.ken_model.specs.declared.values.Value.{Value}
use Rattle.ken_model.specs.Handler.{Handler}

-- which draws a handler takes is decided as they are drawn: of two lists that it takes at one message neither is a beginning of the other
abbrev pub IsDecided : Handler → Type 0
IsDecided h = (node nodes : ℕ) (value : Value) (m : Message) (draws more : List ℕ)
    → IsSome (h.after node nodes value m draws) → IsSome (h.after node nodes value m (draws ++ more)) → more ≡ []

-- a kind takes two draws for a count of mix, and else none
abbrev pub takes : Kind → Option ℕ → List ℕ → Bool
takes Mix (Some count) (x ∷ y ∷ []) = true
takes Mix (Some count) draws = false
takes kind count [] = true
takes kind count (x ∷ draws) = false
