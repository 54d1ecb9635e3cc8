-- A ledger takes one number of draws for a message.
use Rattle.std.proofs.Common.{◌≡◌, ℕ, ◌+◌, ◌-◌, ◌^◌, List, [], ◌∷◌, ◌++◌, Bool, true, false, ◌==◌, ◌&&◌, nat_lt, nat_le, if◌then◌else◌, Option, Some, None, IsSome, codes, decimal, refl}
use Rattle.ken_model.specs.declared.messages.Send.{Send}
use Rattle.ken_model.specs.declared.messages.TheConstants.{OUTSIDE}
use Rattle.ken_model.specs.declared.values.Value.{Value}
use Rattle.ken_model.specs.Effects.{Effect, answered, refused}
use Rattle.ken_model.specs.Kinds.{without_draws}
use Rattle.ken_num.specs.Numbers.{num}
use Rattle.ken_actors.specs.Decided.{IsDecided}
use Rattle.ken_ledger.specs.Ledger.{payment_of, with_receipt, credited, asked, ledger_after, ledger}

-- of two lists of draws that are taken none is the beginning of the other
abbrev OneWay : (List ℕ → Option Effect) → Type 0
OneWay f = (draws more : List ℕ) → IsSome (f draws) → IsSome (f (draws ++ more)) → more ≡ []

none_drawn : (e : Effect) → OneWay (λ draws. without_draws draws e)
none_drawn e [] [] one two = refl
none_drawn e [] (d ∷ ds) one two = absurd cc
none_drawn e (d ∷ ds) more one two = absurd cc

one_drawn : (value : Value) (balance : ℕ) (sends : List Send) → OneWay (with_receipt value balance sends)
one_drawn value balance sends [] more one two = absurd cc
one_drawn value balance sends (clock ∷ []) [] one two = refl
one_drawn value balance sends (clock ∷ []) (d ∷ ds) one two = absurd cc
one_drawn value balance sends (clock ∷ d ∷ ds) more one two = absurd cc

either : (b : Bool) (f g : List ℕ → Option Effect) → OneWay f → OneWay g → OneWay (λ draws. if b then f draws else g draws)
either true f g of_f of_g = of_f
either false f g of_f of_g = of_g

credited_drawn : (value : Value) (amount : Option ℕ) → OneWay (credited value amount)
credited_drawn value None = none_drawn (refused value)
credited_drawn value (Some n) = either (nat_lt (value.root + n) (2 ^ 64)) _ _ (one_drawn value (value.root + n) []) (none_drawn (answered value (codes "full")))

asked_drawn : (nodes : ℕ) (value : Value) (text : List ℕ) (payment : Option (ℕ × ℕ)) → OneWay (asked nodes value text payment)
asked_drawn nodes value text None = credited_drawn value (num text)
asked_drawn nodes value text (Some p) = either (nat_lt p.0 nodes && nat_le p.1 value.root) _ _ (one_drawn value (value.root - p.1) (record { to = p.0; bytes = decimal p.1 } ∷ [])) (none_drawn (answered value (codes "refused")))

pub ledger_is_decided : IsDecided ledger
unfolding ledger_after
ledger_is_decided node nodes value m = either (m.from == OUTSIDE) _ _ (asked_drawn nodes value m.bytes (payment_of m.bytes)) (credited_drawn value (num m.bytes))
