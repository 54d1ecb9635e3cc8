-- An order of the program, as the definitions have it.
use Rattle.std.specs.Prelude.{ℕ, ◌<◌, ◌≤◌, List, length}
use Rattle.ken_model.specs.declared.orders.Order.{Order as Parsed}
use Rattle.ken_model.specs.declared.orders.Order.TheVariants.{Open as ParsedOpen, Move as ParsedMove, Credit as ParsedCredit}
use Rattle.ken_model.specs.declared.orders.Named.{Named}
use Rattle.ken_model.specs.declared.orders.Numbered.{Numbered}
use Rattle.ken_model.specs.declared.orders.TheConstants.{MAX_NAME}
use Rattle.ken_model.specs.Bank.{Order, Open, Move, Credit}

-- the order with its bytes
abbrev pub order_view : Parsed → Order
order_view (ParsedOpen name amount) = Open name.now amount
order_view (ParsedMove name amount to other) = Move name.now amount to other.now
order_view (ParsedCredit name amount) = Credit name.now amount

abbrev pub named_view : Named → List ℕ × ℕ
named_view n = (n.name.now, n.amount)

abbrev pub numbered_view : Numbered → ℕ × List ℕ
numbered_view n = (n.number, n.after.now)

-- as long as a name
abbrev pub IsNameLong : List ℕ → Type 0
IsNameLong bytes = (0 < length bytes) × (length bytes ≤ MAX_NAME)

-- the names of an order are
abbrev pub HasNames : Parsed → Type 0
HasNames (ParsedOpen name amount) = IsNameLong name.now
HasNames (ParsedMove name amount to other) = IsNameLong name.now × IsNameLong other.now
HasNames (ParsedCredit name amount) = IsNameLong name.now
