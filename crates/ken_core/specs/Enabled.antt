-- Where an event of a node is enabled.
use Rattle.std.specs.Prelude.{◌≡◌, ◌≢◌, ℕ, ◌+◌, ◌-◌, ◌*◌, ◌<◌, ◌≤◌, ◌⊎◌, List, length, map, slice_get, slice_index, Some, IsTrue}
use Rattle.std.specs.List.{AllByRecursion}
use Rattle.ken_model.specs.declared.messages.Message.{Message}
use Rattle.ken_model.specs.declared.messages.Out.{Out}
use Rattle.ken_model.specs.declared.values.Value.{Value}
use Rattle.ken_model.specs.Game.{Game}
use Rattle.ken_model.specs.Network.{Place, Turn, outside, inputs_for, turn_at}
use Rattle.ken_record.specs.declared.page.Page.{Page}
use Rattle.ken_record.specs.Grammar.{rise_from, page_rank}
use Rattle.ken_pages.specs.Paged.{page_of}
use Rattle.ken_cover.specs.Overlay.{overlay}
use Rattle.ken_cover.specs.Covers.{MayLeaveOut}
use Rattle.ken_core.specs.declared.events.Told.{Told}
use Rattle.ken_model.specs.Reading.{read_value}
use Rattle.ken_core.specs.Turns.{consumed_from, stamp_after, outs_of}
use Rattle.ken_core.specs.Nodes.{Node}
use Rattle.ken_core.specs.Packets.{Packet, Mail}

-- a page that a turn changed: it lies in the heap, and isn't as it was there
pub record IsChanged (heap : List ℕ) (e : Page) : Type 0 where
  pub within : 256 * e.page + 256 ≤ length heap
  pub bytes : length e.bytes ≡ 256
  pub differs : page_of heap e.page ≢ e.bytes

-- the pages that a turn changed, rising
pub record AreChanged (heap : List ℕ) (pages : List Page) : Type 0 where
  pub rising : IsTrue (rise_from page_rank 0 pages)
  pub each : AllByRecursion (IsChanged heap) pages

-- a message came to v: its mail was put, or it is an input
abbrev pub Came : Game → (Packet → Type 0) → ℕ → Message → Type 0
Came g put v m = put (Mail m) ⊎ ((m.from ≡ outside) × (slice_get (inputs_for g v) (m.number - 1) ≡ Some m))

-- the node as the abstract network has it, with the value of its heap
abbrev pub place_at : Node → Value → Place
place_at n value = record { value = value; stamp = stamp_after 0 n.turning.turns; turns = length n.turning.turns; outs = map (λ (o : Out). o.text) (outs_of n.turning.turns) }

-- node v may seal the turn t, which takes a message of `from` with these draws and changes these pages
pub record MaySeal (g : Game) (put : Packet → Type 0) (v : ℕ) (n : Node) (from : ℕ) (draws : List ℕ) (pages : List Page) (t : Turn) : Type 0 where
  pub up : IsTrue n.turning.up
  pub more : length n.turning.turns < g.turns
  -- the message is the one after the consumed one, and it came
  pub sender : t.message.from ≡ from
  pub receiver : t.message.to ≡ v
  pub number : t.message.number ≡ consumed_from from n.turning.turns + 1
  pub came : Came g put v t.message
  -- the handler makes this turn of it
  pub value : Value
  pub reads : read_value n.turning.pages.heap ≡ Some value
  pub drawn : t.draws ≡ draws
  pub made : turn_at g v (place_at n value) t.draws t.message ≡ Some t
  -- the pages, laid over the heap, stand for the new value
  pub changed : AreChanged n.turning.pages.heap pages
  pub stands : read_value (overlay n.turning.pages.heap pages) ≡ Some t.effect.value

-- numbers that were told are at most those that are known
abbrev pub AreAtMost : List ℕ → List ℕ → Type 0
AreAtMost told known = (x : ℕ) → slice_index told x ≤ slice_index known x

-- a node may make a turnover with what its handler was told
pub record MayTurn (g : Game) (n : Node) (told : Told) : Type 0 where
  pub up : IsTrue n.turning.up
  pub width : length told.acked ≡ g.nodes
  pub acked : AreAtMost told.acked n.sending.acked
  pub emitted : told.emitted ≤ n.sending.emitted
  pub clean : MayLeaveOut told.settled n.turning.pages n.patching
