-- The turn that a handler makes of a message, and what is kept of it.
use Rattle.std.specs.Prelude.{◌≡◌, ℕ, ◌+◌, ◌^◌, ◌<◌, ◌≤◌, max, List, map, slice_index, Some}
use Rattle.std.specs.List.{AllByRecursion}
use Rattle.ken_model.specs.declared.messages.Message.{Message}
use Rattle.ken_model.specs.Posted.{posted_after}
use Rattle.ken_model.specs.Effects.{Effect}
use Rattle.ken_model.specs.Handler.{Handler}
use Rattle.ken_model.specs.Layout.{StandsFor}
use Rattle.ken_model.specs.Network.{outputs_from}
use Rattle.ken_alloc.specs.Objects.{heap_in}
use Rattle.ken_record.specs.declared.effects.Effects.{Effects}
use Rattle.ken_record.specs.declared.page.Page.{Page}
use Rattle.ken_core.specs.Turns.{sent_of}
use Rattle.ken_store.specs.declared.numbers.Numbers.{Numbers}
use Rattle.ken_store.specs.declared.turning.TurnSide.{TurnSide}
use Rattle.ken_store.specs.Ahead.{frame_pages}
use Rattle.ken_store.specs.Turning.{HasPages, KeepsLog}
use Rattle.ken_ship.specs.declared.items.Sealed.{Sealed}
use Rattle.ken_app.specs.Turning.{IsShortText}
use Rattle.ken_order.specs.Consumed.{Consumed, IsSender, consumed_from}
use Rattle.ken_work.specs.declared.items.Frozen.{Frozen}
use Rattle.ken_work.specs.declared.worker.TurnWorker.{TurnWorker}
use Rattle.ken_work.specs.Capped.{HasHigh}

-- the effects of a turn of node v after these numbers: its messages and outputs go on with their numbers, and its stamp is one more
-- than the larger of the node's and the message's
abbrev pub stamp_in : Numbers → Message → ℕ
stamp_in n m = max n.stamp m.stamp + 1

abbrev pub effects_in : ℕ → Numbers → Message → List ℕ → Effect → Effects
effects_in v n m draws effect = record {
  from = m.from;
  number = m.number;
  stamp = stamp_in n m;
  draws = draws;
  sends = map sent_of (posted_after v (stamp_in n m) (λ w. slice_index n.sent w) effect.sends);
  outs = outputs_from n.outputs effect.outs;
}

-- a turn is begun on a side, and its heap is what the handler makes of the message with these draws
pub record IsMade {D : Type 0} (h : Handler) (m : Message) (e : Effects) (old new : TurnSide D) : Type 0 where
  pub same : KeepsLog old new
  pub stood : StandsFor old.objects.bytes old.objects.value
  pub begun : new.objects.begun ≡ Some old.objects.bytes
  pub pages : HasPages old.owner.pages (heap_in new.objects)
  pub stands : StandsFor new.objects.bytes new.objects.value
  pub effect : Effect
  pub made : h.after old.owner.node old.owner.nodes old.objects.value m e.draws ≡ Some effect
  pub value : new.objects.value ≡ effect.value
  pub effects : e ≡ effects_in old.owner.node old.numbers m e.draws effect
  pub words : AllByRecursion (λ (d : ℕ). d < 2 ^ 64) e.draws

-- a turn that is handed to the patcher, as its number and pages
abbrev pub frozen_pages_of : Frozen → ℕ × List Page
frozen_pages_of f = (f.turn, frame_pages f.pages.items)

-- what is handed to the externaliser is the turn's
pub record IsHanded (turn : ℕ) (e : Effects) (s : Sealed) : Type 0 where
  pub turn_is : s.turn ≡ turn
  pub stamp : s.stamp ≡ e.stamp
  pub sends : s.sends ≡ e.sends
  pub outs : s.outs ≡ e.outs

-- a message that node v may take, by what it has consumed: the next of its sender, short, and with a stamp that isn't high
pub record IsMessage (v : ℕ) (c : Consumed) (m : Message) : Type 0 where
  pub sender : IsSender c.nodes m.from
  pub to : m.to ≡ v
  pub number : m.number ≡ consumed_from c m.from + 1
  pub stamp : m.stamp < 2 ^ 63
  pub short : IsShortText m.bytes

-- no number of a worker is at an end, and its log has room: so a turn may be sealed
pub record MayTakeMore {D : Type 0} (w : TurnWorker D) : Type 0 where
  pub turns : w.side.numbers.turns < w.cap
  pub numbers : HasHigh w.side.numbers → ⊥
  pub end : w.side.log.end ≤ 2 ^ 39
