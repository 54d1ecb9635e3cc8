-- Whether a run has ended, node by node.
use Rattle.std.specs.Prelude.{◌≡◌, ℕ, ◌<◌, ◌≤◌, ◌⊎◌, List, length}
use Rattle.ken_model.specs.declared.reports.Emission.{Emission}
use Rattle.ken_model.specs.Emissions.{emitted_by, largest_of}
use Rattle.ken_model.specs.Game.{Game}
use Rattle.ken_model.specs.Network.{outside}
use Rattle.ken_core.specs.Nodes.{Node}
use Rattle.ken_core.specs.Turns.{outs_of}
use Rattle.ken_flow.specs.Standstill.{waits_on}

-- something waits for node v, of a node or of the outside
pub record HasWaiting (g : Game) (nodes : ℕ → Node) (v : ℕ) : Type 0 where
  pub from : ℕ
  pub known : (from < g.nodes) ⊎ (from ≡ outside)
  pub waits : 0 < waits_on g nodes from v

-- nothing does
abbrev pub HasNoneWaiting : Game → (ℕ → Node) → ℕ → Type 0
HasNoneWaiting g nodes v = (u : ℕ) → (u < g.nodes) ⊎ (u ≡ outside) → waits_on g nodes u v ≤ 0

-- node v has nothing more to do: each of its outputs was emitted once at least, and what waits for it waits for ever
pub record IsDone (g : Game) (emissions : List Emission) (nodes : ℕ → Node) (v : ℕ) : Type 0 where
  pub emitted : length (outs_of (nodes v).turning.turns) ≤ largest_of 0 (emitted_by v emissions)
  pub waits : (u : ℕ) → (u < g.nodes) ⊎ (u ≡ outside) → 0 < waits_on g nodes u v → g.turns ≤ length (nodes v).turning.turns
