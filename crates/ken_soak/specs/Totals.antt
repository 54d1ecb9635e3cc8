-- What the nodes of a run came to, counted.
use Rattle.std.specs.Prelude.{◌≡◌, ℕ, ◌+◌, ◌<◌, ◌^◌, ◌==◌, List, length, map, get_or}
use Rattle.std.specs.List.{count_by}
use Rattle.ken_model.specs.declared.reports.Lines.{Lines}
use Rattle.ken_model.specs.declared.reports.TurnLine.{TurnLine}
use Rattle.ken_model.specs.declared.values.Value.{Value}
use Rattle.ken_gen.specs.declared.soaks.NodeTotal.{NodeTotal}

-- how many of these turns are node v's
abbrev pub turns_at : ℕ → List TurnLine → ℕ
turns_at v turns = count_by (λ (t : TurnLine). t.step.node == v) turns

-- a node with the root of its heap, and no turns yet
abbrev pub at_root : Value → NodeTotal
at_root heap = record { turns = 0; root = heap.root }

-- 64 bits hold so many turns more
abbrev pub HaveRoom : ℕ → List NodeTotal → Type 0
HaveRoom more totals = (v : ℕ) → v < length totals → (none : NodeTotal) → (get_or totals v none).turns + more < 2 ^ 64

-- each node has so many turns more, and nothing else changed
pub record HaveCounted (more : ℕ → ℕ) (old new : List NodeTotal) : Type 0 where
  pub width : length new ≡ length old
  pub each : (v : ℕ) → v < length old → (none : NodeTotal) → get_or new v none ≡ record (get_or old v none) { turns = (get_or old v none).turns + more v }

-- the totals are those of a run's lines: a node's turns are the lines that it has, and its root is its heap's
abbrev pub AreTotalsOf : Lines → List NodeTotal → Type 0
AreTotalsOf l totals = HaveCounted (λ v. turns_at v l.turns) (map at_root l.heaps) totals
