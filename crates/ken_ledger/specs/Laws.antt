-- What holds of a ledger, as runs play it: within the limits of a turn.
use Rattle.std.specs.Prelude.{◌≡◌, ℕ, ◌+◌, ◌<◌, ◌^◌, List, Some}
use Rattle.std.specs.List.{AllByRecursion}
use Rattle.ken_model.specs.declared.messages.Message.{Message}
use Rattle.ken_model.specs.declared.messages.Send.{Send}
use Rattle.ken_model.specs.declared.messages.TheConstants.{OUTSIDE}
use Rattle.ken_model.specs.declared.values.Value.{Value}
use Rattle.ken_model.specs.Effects.{Effect}
use Rattle.ken_app.specs.Limited.{limited}
use Rattle.ken_ledger.specs.Ledger.{ledger}

-- a text adds n to the balance of each node that takes it from a node, where 64 bits hold the sum
abbrev pub IsCredit : List ℕ → ℕ → Type 0
IsCredit bytes n =
    (node nodes : ℕ) (value : Value) (m : Message) (draws : List ℕ) (e : Effect) → m.bytes ≡ bytes → (m.from ≡ OUTSIDE → ⊥) → value.root + n < 2 ^ 64
    → AllByRecursion (λ (d : ℕ). d < 2 ^ 64) draws → (limited ledger).after node nodes value m draws ≡ Some e → e.value.root ≡ value.root + n

-- of an effect on a heap, a message takes from its balance just what it adds to its receiver's
pub record IsPayment (value : Value) (e : Effect) (s : Send) : Type 0 where
  pub amount : ℕ
  pub debit : e.value.root + amount ≡ value.root
  pub credit : IsCredit s.bytes amount

-- so does each message of a ledger
abbrev pub NoPaymentIsLost : Type 0
NoPaymentIsLost = (node nodes : ℕ) (value : Value) (m : Message) (draws : List ℕ) (e : Effect) → (limited ledger).after node nodes value m draws ≡ Some e → AllByRecursion (IsPayment value e) e.sends
