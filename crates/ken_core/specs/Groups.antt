-- A group of nodes as the code keeps it, and what it stands for.
use Rattle.std.specs.Prelude.{◌≡◌, ℕ, ◌-◌, ◌<◌, ◌≤◌, List, length, map, slice_get, slice_index_or, Bool, true, false, if◌then◌else◌, Option, Some, None, sum_by}
use Rattle.std.specs.List.{AllByRecursion}
use Rattle.ken_model.specs.declared.messages.Message.{Message}
use Rattle.ken_model.specs.declared.reports.Emission.{Emission}
use Rattle.ken_model.specs.Game.{Game}
use Rattle.ken_model.specs.Limits.{IsWithinLimits}
use Rattle.ken_record.specs.declared.effects.Effects.{Effects}
use Rattle.ken_core.specs.declared.events.Event.{Event}
use Rattle.ken_core.specs.declared.machine.Machine.{Machine}
use Rattle.ken_core.specs.Turns.{mails_to}
use Rattle.ken_core.specs.Nodes.{Node, first_node, heap_pages}
use Rattle.ken_core.specs.Sets.{has_at}
use Rattle.ken_core.specs.Machines.{turn_pages, image_pages, ArePages}
use Rattle.ken_core.specs.Ledgers.{sent_to, IsLedger}
use Rattle.ken_core.specs.Clusters.{Cluster, Step, IsBarred}

abbrev pub node_in : Machine → Node
node_in m = record {
  turning = record { up = m.up; turns = m.ledger.turns.items; pages = turn_pages m.pages; retired = m.retired.items; retired_outs = m.retired_outs };
  patching = image_pages m.pages;
  sending = record { acked = m.acked.items; emitted = m.emitted };
}

-- a node with what it put: of each receiver and number the mail, where it was put, and whether an acknowledgement was
pub record Shown : Type 0 where
  pub node : Node
  pub mail : ℕ → ℕ → Option Message
  pub answer : ℕ → ℕ → Bool

abbrev pub shown : Machine → Shown
shown m = record {
  node = node_in m;
  mail = λ w number. if has_at m.mailed.items w number then slice_get (sent_to m.ledger w) (number - 1) else None;
  answer = λ w through. has_at m.answered.items w through;
}

-- a node past those of the run
abbrev pub no_show : Game → Shown
no_show g = record { node = first_node g; mail = λ w number. None; answer = λ w through. false }

abbrev pub shown_at : Game → List Machine → ℕ → Shown
shown_at g ms v = slice_index_or (map shown ms) v (no_show g)

-- the group that nodes and emissions stand for
abbrev pub group_of : Game → List Machine → List Emission → Cluster
group_of g ms es = record { node = λ v. (shown_at g ms v).node; mail = λ u v number. (shown_at g ms u).mail v number; answer = λ u v through. (shown_at g ms u).answer v through; emissions = es }

-- node v as it is kept, where all nodes together made so many turns
pub record IsKept (g : Game) (made v : ℕ) (m : Machine) : Type 0 where
  pub ledger : IsLedger g v m.ledger
  pub pages : ArePages (heap_pages g) m.up m.pages
  pub acked : length m.acked.items ≡ g.nodes
  pub retired : length m.retired.items ≡ g.nodes
  pub mailed : length m.mailed.items ≡ g.nodes
  pub answered : length m.answered.items ≡ g.nodes
  -- what was put was sent
  pub put : (w number : ℕ) → has_at m.mailed.items w number ≡ true → number - 1 < length (mails_to v w m.ledger.turns.items)
  -- no stamp is past the number of turns
  pub early : AllByRecursion (λ (e : Effects). e.stamp ≤ made) m.ledger.turns.items

-- how many turns all nodes made
abbrev pub made_by : List Machine → ℕ
made_by ms = sum_by (λ (m : Machine). length m.ledger.turns.items) ms

pub record AreKept (g : Game) (ms : List Machine) : Type 0 where
  pub limits : IsWithinLimits g
  pub width : length ms ≡ g.nodes
  pub each : (v : ℕ) (m : Machine) → slice_get ms v ≡ Some m → IsKept g (made_by ms) v m

-- what a call that lets an event happen tells: whether it was enabled, and where it wasn't, nothing changed
abbrev pub Plays : Game → Cluster → Event → Cluster → Bool → Type 0
Plays g w e w2 true = Step g w e w2
Plays g w e w2 false = IsBarred g w e × (w2 ≡ w)
