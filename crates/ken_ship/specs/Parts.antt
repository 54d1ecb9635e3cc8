-- What a contract sees of a node's externaliser.
use Rattle.std.specs.Prelude.{◌≡◌, ℕ, ◌+◌, List, length}
use Rattle.ken_model.specs.declared.reports.Emission.{Emission}
use Rattle.ken_outbox.specs.Waiting.{Waiting}
use Rattle.ken_links.specs.declared.push_end.PushEnd.{PushEnd}
use Rattle.ken_links.specs.Rings.{pushed, free, SamePushEnd, SamePopEnd}
use Rattle.ken_ship.specs.declared.items.Told.{Told}
use Rattle.ken_ship.specs.declared.backlog.Backlog.{Backlog}
use Rattle.ken_ship.specs.declared.worker.SendWorker.{SendWorker}
use Rattle.ken_ship.specs.Handing.{with_turns}

-- what waits of all that was handed over, also of turns that are not in the outbox yet
abbrev pub due_in : Backlog → Waiting
due_in b = with_turns b.node b.turns.items b.outbox

-- what waits to be acknowledged or emitted of all that it was handed, what it emitted, how often it was refused running, all that
-- it told its handler, and the number of the last turn that it was handed
pub record Part : Type 0 where
  pub due : Waiting
  pub emissions : List Emission
  pub refusals : ℕ
  pub told : List Told
  pub handed : ℕ

abbrev pub part_of : SendWorker → Part
part_of w = record { due = due_in w.backlog; emissions = w.emissions.items; refusals = w.refusals; told = pushed w.told; handed = w.backlog.handed }

-- of one node, with the same ends of the same rings
pub record IsSameWorker (a b : SendWorker) : Type 0 where
  pub node : b.backlog.node ≡ a.backlog.node
  pub nodes : b.nodes ≡ a.nodes
  pub sealed : SamePopEnd a.sealed b.sealed
  pub told : SamePushEnd a.told b.told

-- each item that was pushed took a slot that was known to be free, and no other was lost
abbrev pub SameSlots : PushEnd Told → PushEnd Told → Type 0
SameSlots a b = free a + length (pushed a) ≡ free b + length (pushed b)
