-- Legal emissions: each output in the order of the numbers, and any that came before perhaps again.
use Rattle.std.specs.Prelude.{◌≡◌, ℕ, ◌+◌, ◌-◌, ◌<◌, ◌≤◌, max, List, [], ◌∷◌, map, length, ◌==◌, Some, filter, slice_get}
use Rattle.std.specs.List.{AllByRecursion}
use Rattle.ken_model.specs.declared.messages.Out.{Out}
use Rattle.ken_model.specs.declared.reports.Emission.{Emission}
use Rattle.ken_model.specs.Game.{Game}
use Rattle.ken_model.specs.Network.{Network}

-- what node v emitted, in order
abbrev pub emitted_by : ℕ → List Emission → List Out
emitted_by v es = map (λ (e : Emission). e.out) (filter (λ (e : Emission). e.node == v) es)

-- each emission has the text of the output with its number, and a number of at most one more than the largest before it
unfoldable pub AreEmitted : List (List ℕ) → ℕ → List Out → Type 0
AreEmitted outs largest [] = Unit {0}
AreEmitted outs largest (o ∷ os) = (0 < o.number) × (o.number ≤ largest + 1) × (slice_get outs (o.number - 1) ≡ Some o.text) × AreEmitted outs (max largest o.number) os

-- the largest number emitted: each number up to it stands there, since none is left out
abbrev pub largest_of : ℕ → List Out → ℕ
largest_of largest [] = largest
largest_of largest (o ∷ os) = largest_of (max largest o.number) os

-- emissions in the order of a report: they stand node by node, from that node on
unfoldable pub AreByNode : ℕ → List Emission → Type 0
AreByNode node [] = Unit {0}
AreByNode node (e ∷ es) = (node ≤ e.node) × AreByNode e.node es

-- each node's outputs were all emitted
abbrev pub AreAllEmitted : Game → Network → List Emission → Type 0
AreAllEmitted g w es = (v : ℕ) → v < g.nodes → largest_of 0 (emitted_by v es) ≡ length (w.place v).outs

-- no node emitted an output again: it emitted as many as it has
abbrev pub AreOnce : Game → Network → List Emission → Type 0
AreOnce g w es = (v : ℕ) → v < g.nodes → length (emitted_by v es) ≡ length (w.place v).outs

-- legal emissions: by nodes of the run, each node's in the order of its outputs, and none left out
pub record AreLegalEmissions (g : Game) (w : Network) (es : List Emission) : Type 0 where
  pub known : AllByRecursion (λ (e : Emission). e.node < g.nodes) es
  pub each : (v : ℕ) → v < g.nodes → AreEmitted (w.place v).outs 0 (emitted_by v es)
  pub all : AreAllEmitted g w es
