-- When a node makes no more turns.
use Rattle.std.specs.Prelude.{ℕ, ◌-◌, ◌^◌, ◌<◌, ◌≤◌, ◌⊎◌, length, slice_index}
use Rattle.ken_record.specs.declared.base.Base.{Base}
use Rattle.ken_record.specs.Spelling.{base_bytes}
use Rattle.ken_record.specs.Versions.{One}
use Rattle.ken_store.specs.declared.numbers.Numbers.{Numbers}
use Rattle.ken_store.specs.Turnovers.{base_of}
use Rattle.ken_work.specs.declared.worker.TurnWorker.{TurnWorker}

-- the base that a turnover would write with what the handler was told
abbrev pub base_in : {D : Type 0} → TurnWorker D → Base
base_in w = base_of w.side w.told.settled w.told.progress.acked w.told.progress.emitted

-- a count that has used up half of its range
abbrev pub IsHigh : ℕ → Type 0
IsHigh n = 2 ^ 63 ≤ n

-- a count of messages from or to a node is high
abbrev pub HasHighCount : Numbers → ℕ → Type 0
HasHighCount n node = IsHigh (slice_index n.consumed node) ⊎ IsHigh (slice_index n.sent node)

-- the stamp is high, or a count of messages or outputs
pub data HasHigh (n : Numbers) : Type 0 where
  stamp : IsHigh n.stamp → HasHigh n
  consumed : (place : ℕ) → IsHigh (slice_index n.consumed place) → HasHigh n
  sent : (place : ℕ) → IsHigh (slice_index n.sent place) → HasHigh n
  outputs : IsHigh n.outputs → HasHigh n

-- the node has made all its turns; or, which no node in accord comes to, one of its numbers or its log is at an end
pub data IsCapped {D : Type 0} (w : TurnWorker D) : Type 0 where
  turns : w.cap ≤ w.side.numbers.turns → IsCapped w
  numbers : HasHigh w.side.numbers → IsCapped w
  generation : 2 ^ 32 - 1 ≤ w.side.log.header.generation → IsCapped w
  end : 2 ^ 39 < w.side.log.end → IsCapped w
  base : 2 ^ 32 ≤ length (base_bytes One (base_in w)) → IsCapped w
