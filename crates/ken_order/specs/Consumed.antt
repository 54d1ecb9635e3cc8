-- What a node has consumed.
use Rattle.std.specs.Prelude.{◌≡◌, ℕ, ◌<◌, ◌⊎◌, ◌==◌, if◌then◌else◌, List, slice_index}

-- the nodes of the run, the last stamp, and the last consumed number of each of nine senders: nodes 0 to 7, then the outside
pub record Consumed : Type 0 where
  pub nodes : ℕ
  pub stamp : ℕ
  pub consumed : List ℕ

-- a node of the run, or the outside
abbrev pub IsSender : ℕ → ℕ → Type 0
IsSender nodes from = (from < nodes) ⊎ (from ≡ 255)

-- where a sender stands
abbrev pub place : ℕ → ℕ
place from = if from == 255 then 8 else from

-- the number of the last message that was consumed of it
abbrev pub consumed_from : Consumed → ℕ → ℕ
consumed_from c from = slice_index c.consumed (place from)
