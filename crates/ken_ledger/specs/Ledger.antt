-- A ledger: each node keeps a balance, takes deposits, and pays to other nodes.
use Rattle.std.specs.Prelude.{ℕ, ◌+◌, ◌-◌, ◌^◌, List, [], ◌∷◌, ◌==◌, ◌&&◌, nat_lt, nat_le, if◌then◌else◌, Option, Some, None, option_map, codes, decimal}
use Rattle.ken_model.specs.declared.messages.Message.{Message}
use Rattle.ken_model.specs.declared.messages.Send.{Send}
use Rattle.ken_model.specs.declared.messages.TheConstants.{OUTSIDE}
use Rattle.ken_model.specs.declared.values.Value.{Value}
use Rattle.ken_model.specs.Effects.{Effect, answered, refused}
use Rattle.ken_model.specs.Handler.{Handler}
use Rattle.ken_model.specs.Kinds.{without_draws}
use Rattle.ken_num.specs.Numbers.{num}

-- a payment is a digit, a space and an amount: to which node, and how much
abbrev pub payment_of : List ℕ → Option (ℕ × ℕ)
payment_of (digit ∷ space ∷ amount) = if nat_le 48 digit && nat_le digit 57 && (space == 32) then option_map (λ n. (digit - 48, n)) (num amount) else None
payment_of _ = None

-- a new balance draws a reading of the clock, and both are output as its receipt
abbrev pub with_receipt : Value → ℕ → List Send → List ℕ → Option Effect
with_receipt value balance sends (clock ∷ []) = Some (record { value = record value { root = balance }; sends = sends; outs = decimal balance ∷ decimal clock ∷ [] })
with_receipt value balance sends _ = None

-- an amount is added to the balance, where 64 bits hold the sum
abbrev pub credited : Value → Option ℕ → List ℕ → Option Effect
credited value None draws = without_draws draws (refused value)
credited value (Some n) draws = if nat_lt (value.root + n) (2 ^ 64) then with_receipt value (value.root + n) [] draws else without_draws draws (answered value (codes "full"))

-- a payment to a node of the run that the balance covers leaves it, and goes to that node; another text is a deposit
abbrev pub asked : ℕ → Value → List ℕ → Option (ℕ × ℕ) → List ℕ → Option Effect
asked nodes value text None draws = credited value (num text) draws
asked nodes value text (Some p) draws = if nat_lt p.0 nodes && nat_le p.1 value.root then with_receipt value (value.root - p.1) (record { to = p.0; bytes = decimal p.1 } ∷ []) draws else without_draws draws (answered value (codes "refused"))

-- the outside deposits and pays, and what comes from a node is a payment to this one
unfoldable pub ledger_after : ℕ → ℕ → Value → Message → List ℕ → Option Effect
ledger_after node nodes value message draws = if message.from == OUTSIDE then asked nodes value message.bytes (payment_of message.bytes) draws else credited value (num message.bytes) draws

abbrev pub clocks_in : List ℕ → List ℕ
clocks_in draws = draws

abbrev pub words_in : List ℕ → List ℕ
words_in draws = []

-- the handler of a ledger
abbrev pub ledger : Handler
ledger = record { after = ledger_after; clocks = clocks_in; words = words_in }
