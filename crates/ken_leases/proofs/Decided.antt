-- Leases take one number of draws for a message.
use Rattle.std.proofs.Common.{◌≡◌, ℕ, List, [], ◌∷◌, ◌++◌, Bool, true, false, ◌==◌, if◌then◌else◌, Option, Some, None, IsSome, refl}
use Rattle.ken_model.specs.declared.messages.TheConstants.{OUTSIDE}
use Rattle.ken_model.specs.declared.values.Value.{Value}
use Rattle.ken_model.specs.Effects.{Effect, answered, refused}
use Rattle.ken_model.specs.KeyValue.{at_space}
use Rattle.ken_model.specs.Kinds.{without_draws}
use Rattle.ken_actors.specs.Decided.{IsDecided}
use Rattle.ken_leases.specs.declared.commands.Action.{Action}
use Rattle.ken_leases.specs.Leases.{command_of, is_answer, asked, taken, leases_after, leases}

-- of two lists of draws that are taken none is the beginning of the other
abbrev OneWay : (List ℕ → Option Effect) → Type 0
OneWay f = (draws more : List ℕ) → IsSome (f draws) → IsSome (f (draws ++ more)) → more ≡ []

none_drawn : (e : Effect) → OneWay (λ draws. without_draws draws e)
none_drawn e [] [] one two = refl
none_drawn e [] (d ∷ ds) one two = absurd cc
none_drawn e (d ∷ ds) more one two = absurd cc

either : (b : Bool) (f g : List ℕ → Option Effect) → OneWay f → OneWay g → OneWay (λ draws. if b then f draws else g draws)
either true f g of_f of_g = of_f
either false f g of_f of_g = of_g

taken_drawn : (value : Value) (node : ℕ) (text : List ℕ) (command : Option (List ℕ × Action)) → OneWay (taken value node text command)
taken_drawn value node text None draws more one two = none_drawn (if is_answer (at_space text) then answered value text else refused value) draws more one two
taken_drawn value node text (Some command) [] more one two = absurd cc
taken_drawn value node text (Some command) (reading ∷ []) [] one two = refl
taken_drawn value node text (Some command) (reading ∷ []) (d ∷ ds) one two = absurd cc
taken_drawn value node text (Some command) (reading ∷ d ∷ ds) more one two = absurd cc

pub leases_are_decided : IsDecided leases
unfolding leases_after
leases_are_decided node nodes value m = either (m.from == OUTSIDE) _ _ (none_drawn (asked nodes value m.bytes (command_of m.bytes))) (taken_drawn value m.from m.bytes (command_of m.bytes))
