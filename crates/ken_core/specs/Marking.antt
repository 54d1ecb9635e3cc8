-- What a node puts, as the code keeps it.
use Rattle.std.specs.Prelude.{◌≡◌, ℕ, ◌+◌, ◌<◌, ◌≤◌, length, slice_index, ◌==◌, ◌&&◌, ◌||◌}
use Rattle.ken_model.specs.Game.{Game}
use Rattle.ken_core.specs.declared.machine.Machine.{Machine}
use Rattle.ken_core.specs.Sets.{has_at}
use Rattle.ken_core.specs.Machines.{KeepsWidths}
use Rattle.ken_core.specs.Ledgers.{sent_to}
use Rattle.ken_core.specs.Groups.{IsKept}

-- a node of some group
abbrev pub IsSomeKept : Machine → Type 0
IsSomeKept m = (g : Game) × ((made : ℕ) × ((v : ℕ) × IsKept g made v m))

-- the place of the i-th message to node `to` past the acknowledged number
abbrev pub place_past : ℕ → ℕ → Machine → ℕ
place_past to i m = slice_index m.acked.items to + i

-- its mail was put
pub record PutsMail (to i : ℕ) (m m2 : Machine) : Type 0 where
  pub known : to < length m.acked.items
  pub sent : place_past to i m < length (sent_to m.ledger to)
  pub rest : m2 ≡ record m { mailed = m2.mailed }
  pub width : length m2.mailed.items ≡ length m.mailed.items
  pub all : (w number : ℕ) → has_at m2.mailed.items w number ≡ (((to == w) && (place_past to i m + 1 == number)) || has_at m.mailed.items w number)

-- there is no such message
abbrev pub HasNoMail : ℕ → ℕ → Machine → Type 0
HasNoMail to i m = to < length m.acked.items → length (sent_to m.ledger to) ≤ place_past to i m

-- nothing changed that a contract sees
abbrev pub IsSame : Machine → Machine → Type 0
IsSame m m2 = (m2 ≡ record m { mailed = m2.mailed }) × (m2.mailed.items ≡ m.mailed.items)

-- what it consumed from a node was acknowledged
pub record Acknowledges (from : ℕ) (m m2 : Machine) : Type 0 where
  pub known : from < length m.ledger.consumed.items
  pub some : 0 < slice_index m.ledger.consumed.items from
  pub rest : m2 ≡ record m { answered = m2.answered }
  pub width : length m2.answered.items ≡ length m.answered.items
  pub all : (w through : ℕ) → has_at m2.answered.items w through ≡ (((from == w) && (slice_index m.ledger.consumed.items from == through)) || has_at m.answered.items w through)

-- it consumed nothing
abbrev pub HasConsumedNone : ℕ → Machine → Type 0
HasConsumedNone from m = from < length m.ledger.consumed.items → slice_index m.ledger.consumed.items from ≡ 0

abbrev pub IsAlike : Machine → Machine → Type 0
IsAlike m m2 = (m2 ≡ record m { answered = m2.answered }) × (m2.answered.items ≡ m.answered.items)

-- what no recovery changes
pub record KeepsRest (m m2 : Machine) : Type 0 where
  pub ledger : m2.ledger ≡ m.ledger
  pub mailed : m2.mailed ≡ m.mailed
  pub answered : m2.answered ≡ m.answered
  pub widths : KeepsWidths m.pages m2.pages
