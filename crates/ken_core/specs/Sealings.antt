-- A turn that can be sealed, as the code has it ready.
use Rattle.std.specs.Prelude.{◌≡◌, ℕ, ◌+◌, ◌<◌, ◌^◌, max, List, map, length, Some, IsTrue}
use Rattle.ken_model.specs.declared.messages.Send.{Send}
use Rattle.ken_core.specs.declared.machine.Machine.{Machine}
use Rattle.ken_core.specs.Ledgers.{sent_to}
use Rattle.std.specs.List.{AllByRecursion}
use Rattle.ken_model.specs.declared.messages.Message.{Message}
use Rattle.ken_model.specs.declared.values.Value.{Value}
use Rattle.ken_model.specs.Game.{Game}
use Rattle.ken_model.specs.Network.{Turn, turn_at, outputs_from}
use Rattle.ken_model.specs.Posted.{posted_after}
use Rattle.ken_model.specs.Reading.{read_value}
use Rattle.ken_record.specs.declared.page.Page.{Page}
use Rattle.ken_cover.specs.Overlay.{overlay}
use Rattle.ken_cover.specs.Sides.{changes_at}
use Rattle.ken_core.specs.declared.sealing.Sealing.{Sealing}
use Rattle.ken_core.specs.Turns.{mails_to, outs_of, stamp_after, sent_of, effects_of}
use Rattle.ken_core.specs.Nodes.{Node}
use Rattle.ken_core.specs.Enabled.{AreChanged, place_at}

-- node v makes the turn t of a message with these draws, and changes these pages; whether the message came is not said here
pub record MakesTurn (g : Game) (v : ℕ) (n : Node) (m : Message) (draws : List ℕ) (pages : List Page) (t : Turn) : Type 0 where
  pub up : IsTrue n.turning.up
  pub more : length n.turning.turns < g.turns
  pub takes : t.message ≡ m
  pub drawn : t.draws ≡ draws
  pub value : Value
  pub reads : read_value n.turning.pages.heap ≡ Some value
  pub made : turn_at g v (place_at n value) draws m ≡ Some t
  pub changed : AreChanged n.turning.pages.heap pages
  pub stands : read_value (overlay n.turning.pages.heap pages) ≡ Some t.effect.value

-- it is that turn, with all that the node keeps of it
pub record IsSealing (g : Game) (v : ℕ) (n : Node) (m : Message) (draws : List ℕ) (pages : List Page) (s : Sealing) : Type 0 where
  pub turn : Turn
  pub makes : MakesTurn g v n m draws pages turn
  pub effects : s.effects ≡ effects_of v n.turning.turns turn
  pub value : s.value ≡ turn.effect.value
  pub live : s.live ≡ record { turn = length n.turning.turns + 1; changes = changes_at (length n.turning.turns + 1) pages }
  pub ahead : s.ahead ≡ s.live
  pub mails : s.mails.items ≡ posted_after v turn.stamp (λ w. length (mails_to v w n.turning.turns)) turn.effect.sends
  pub outs : s.outs.items ≡ outputs_from (length (outs_of n.turning.turns)) turn.effect.outs
  pub receivers : AllByRecursion (λ (x : Message). x.to < g.nodes) s.mails.items
  pub early : turn.stamp < 2 ^ 64

-- what a node keeps of a turn that takes a message with these draws, changes these pages, leaves this value, and sends and outputs
-- this
pub record Keeps (v : ℕ) (k : Machine) (m : Message) (draws : List ℕ) (pages : List Page) (left : Value) (sends : List Send) (outs : List (List ℕ)) (s : Sealing) : Type 0 where
  pub stamp : ℕ
  pub is_stamp : stamp ≡ max (stamp_after 0 k.ledger.turns.items) m.stamp + 1
  pub mails : s.mails.items ≡ posted_after v stamp (λ w. length (sent_to k.ledger w)) sends
  pub outputs : s.outs.items ≡ outputs_from (length k.ledger.outs.items) outs
  pub effects : s.effects ≡ record { from = m.from; number = m.number; stamp = stamp; draws = draws; sends = map sent_of s.mails.items; outs = s.outs.items }
  pub value : s.value ≡ left
  pub live : s.live ≡ record { turn = length k.ledger.turns.items + 1; changes = changes_at (length k.ledger.turns.items + 1) pages }
  pub ahead : s.ahead ≡ s.live
