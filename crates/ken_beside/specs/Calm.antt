-- Events of a node that stays up, with nothing in doubt.
use Rattle.std.specs.Prelude.{◌≡◌, ℕ, ◌+◌, ◌<◌, List, length, slice_get}
use Rattle.std.specs.List.{AllByRecursion}
use Rattle.ken_model.specs.Game.{Game}
use Rattle.ken_core.specs.declared.events.Event.{Event}
use Rattle.ken_core.specs.declared.events.Event.TheVariants.{Seal, SealCut, Patch, SyncImage, Turnover, Send, Ack, TakeAck, Emit, Crash, Recover}
use Rattle.ken_core.specs.declared.events.Outcome.{Outcome}
use Rattle.ken_core.specs.declared.events.Outcome.TheVariants.{Whole, Landed, Lost}
use Rattle.ken_core.specs.Nodes.{Node}
use Rattle.ken_core.specs.Packets.{Packet, Outgoing}
use Rattle.ken_core.specs.Runs.{NodeRun}
use Rattle.ken_core.specs.Turns.{outs_of}

abbrev pub IsWholeTurnover : Outcome → Type 0
IsWholeTurnover Whole = Unit {0}
IsWholeTurnover Landed = ⊥
IsWholeTurnover Lost = ⊥

-- no crash, no recovery, and no seal or turnover that a crash may undo
abbrev pub IsCalm : Event → Type 0
IsCalm (Seal node from draws pages) = Unit {0}
IsCalm (SealCut node from draws pages landed) = ⊥
IsCalm (Patch node page) = Unit {0}
IsCalm (SyncImage node) = Unit {0}
IsCalm (Turnover node outcome told) = IsWholeTurnover outcome
IsCalm (Send node to i) = Unit {0}
IsCalm (Ack node from) = Unit {0}
IsCalm (TakeAck node from through) = Unit {0}
IsCalm (Emit node) = Unit {0}
IsCalm (Crash node pages) = ⊥
IsCalm (Recover node) = ⊥

-- such a run emits the outputs that weren't emitted before, in order, each once
pub record EmitsInOrder (n : Node) (out : Outgoing) (n2 : Node) : Type 0 where
  pub emitted : n2.sending.emitted ≡ n.sending.emitted + length out.outs
  pub outs : (k : ℕ) → k < length out.outs → slice_get (outs_of n2.turning.turns) (n.sending.emitted + k) ≡ slice_get out.outs k

abbrev pub CalmEmitsInOrder : (Packet → Type 0) → Type 0
CalmEmitsInOrder put = (g : Game) (v : ℕ) (n : Node) (es : List Event) (out : Outgoing) (n2 : Node) → NodeRun g put v n es out n2 → AllByRecursion IsCalm es → EmitsInOrder n out n2
