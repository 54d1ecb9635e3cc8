-- The group that the nodes of a run stand for.
use Rattle.std.specs.Prelude.{ℕ, ◌-◌, ◌==◌, ◌&&◌, List, nat_lt, nat_le, slice_get, if◌then◌else◌, Bool, Option, None}
use Rattle.ken_model.specs.declared.messages.Message.{Message}
use Rattle.ken_model.specs.declared.reports.Emission.{Emission}
use Rattle.ken_model.specs.Game.{Game}
use Rattle.ken_core.specs.Clusters.{Cluster}
use Rattle.ken_core.specs.Nodes.{Node}
use Rattle.ken_core.specs.Turns.{consumed_from, mails_to}

-- a mail that a node of the run has sealed counts as put: what it puts is always one of these
abbrev pub sealed_mail : Game → (ℕ → Node) → ℕ → ℕ → ℕ → Option Message
sealed_mail g nodes u v number = if nat_lt u g.nodes && nat_lt 0 number then slice_get (mails_to u v (nodes u).turning.turns) (number - 1) else None

-- and so does each acknowledgement through no more than it has consumed
abbrev pub consumed_answer : Game → (ℕ → Node) → ℕ → ℕ → ℕ → Bool
consumed_answer g nodes u v through = nat_lt u g.nodes && nat_le through (consumed_from v (nodes u).turning.turns)

-- the nodes with what they have emitted, where all that they may put was put
abbrev pub group_of : Game → (ℕ → Node) → List Emission → Cluster
group_of g nodes emissions = record { node = nodes; mail = sealed_mail g nodes; answer = consumed_answer g nodes; emissions = emissions }

-- the nodes, where node v became another
abbrev pub with_node : ℕ → Node → (ℕ → Node) → ℕ → Node
with_node v n nodes u = if u == v then n else nodes u
