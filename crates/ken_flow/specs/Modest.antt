-- What turns come to where the handler keeps the limits of a turn.
use Rattle.std.specs.Prelude.{ℕ, ◌≤◌, List, length}
use Rattle.std.specs.List.{AllByRecursion}
use Rattle.ken_model.specs.declared.messages.Out.{Out}
use Rattle.ken_model.specs.declared.reports.Emission.{Emission}
use Rattle.ken_model.specs.Game.{Game}
use Rattle.ken_model.specs.Limits.{IsWithinLimits}
use Rattle.ken_record.specs.declared.effects.Effects.{Effects}
use Rattle.ken_record.specs.declared.sent.Sent.{Sent}
use Rattle.ken_core.specs.Accord.{Accord}
use Rattle.ken_core.specs.Nodes.{Node}
use Rattle.ken_app.specs.declared.turn.TheConstants.{MAX_SENDS, MAX_OUTPUTS}
use Rattle.ken_app.specs.Limits.{KeepsLimits}
use Rattle.ken_app.specs.Turning.{IsShortText}
use Rattle.ken_flow.specs.Groups.{group_of}

-- a sealed turn with few messages and outputs, each short
pub record IsModestTurn (e : Effects) : Type 0 where
  pub few_sends : length e.sends ≤ MAX_SENDS
  pub few_outs : length e.outs ≤ MAX_OUTPUTS
  pub sends : AllByRecursion (λ (s : Sent). IsShortText s.bytes) e.sends
  pub outs : AllByRecursion (λ (o : Out). IsShortText o.text) e.outs

-- in accord, each sealed turn is one
abbrev pub TurnsAreModest : Type 0
TurnsAreModest = (g : Game) (nodes : ℕ → Node) (emissions : List Emission) → IsWithinLimits g → KeepsLimits g.nodes g.size g.handler → Accord g (group_of g nodes emissions) → (v : ℕ) → AllByRecursion IsModestTurn (nodes v).turning.turns
