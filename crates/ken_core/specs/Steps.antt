-- What each event makes of its node.
use Rattle.std.specs.Prelude.{◌≡◌, ℕ, ◌+◌, ◌<◌, max, List, [], ◌∷◌, ◌++◌, length, slice_set, slice_index, Some, Bool, true, false, IsTrue}
use Rattle.ken_model.specs.declared.messages.Message.{Message}
use Rattle.ken_model.specs.declared.messages.Out.{Out}
use Rattle.ken_model.specs.Game.{Game}
use Rattle.ken_model.specs.Network.{Turn}
use Rattle.ken_record.specs.declared.page.Page.{Page}
use Rattle.ken_cover.specs.declared.layers.Change.{Change}
use Rattle.ken_cover.specs.declared.layers.Layer.{Layer}
use Rattle.ken_cover.specs.Sides.{IsPatch, sealed_pages, handed_pages, patched_page, synced_pages, turned_pages, crashed_pages, recovered_turn_pages, recovered_image_pages}
use Rattle.ken_cover.specs.Covers.{AreTorn}
use Rattle.ken_core.specs.declared.events.Event.{Event}
use Rattle.ken_core.specs.declared.events.Event.TheVariants.{Seal, SealCut, Patch, SyncImage, Turnover, Send, Ack, TakeAck, Emit, Crash, Recover}
use Rattle.ken_core.specs.declared.events.Told.{Told}
use Rattle.ken_core.specs.declared.events.Outcome.{Outcome}
use Rattle.ken_core.specs.declared.events.Outcome.TheVariants.{Whole, Landed, Lost}
use Rattle.ken_core.specs.Turns.{consumed_from, effects_of}
use Rattle.ken_core.specs.Nodes.{Node, heap_pages}
use Rattle.ken_core.specs.Packets.{Packet, Answer, unacked, due}
use Rattle.ken_core.specs.Enabled.{MaySeal, MayTurn}

-- the node went down, and nothing else changed
abbrev pub down : Node → Node
down n = record n { turning = record n.turning { up = false } }

-- a turn was sealed
abbrev pub sealed_node : ℕ → Turn → List Page → Node → Node
sealed_node v t pages n = record n {
  turning = record n.turning {
    turns = n.turning.turns ++ effects_of v n.turning.turns t ∷ [];
    pages = sealed_pages (length n.turning.turns + 1) pages n.turning.pages;
  };
  patching = handed_pages (length n.turning.turns + 1) pages n.patching;
}

-- a seal was cut: it landed, or it didn't
abbrev pub cut_node : Bool → ℕ → Turn → List Page → Node → Node
cut_node true v t pages n = down (sealed_node v t pages n)
cut_node false v t pages n = down n

abbrev pub patched_node : Layer → List Layer → Change → Node → Node
patched_node first rest c n = record n { patching = patched_page first rest c n.patching }

abbrev pub synced_node : Node → Node
synced_node n = record n { patching = synced_pages n.patching }

-- numbers, each raised to the one that was told
abbrev pub raised : List ℕ → List ℕ → List ℕ
raised [] told = []
raised (x ∷ xs) [] = x ∷ xs
raised (x ∷ xs) (y ∷ ys) = max x y ∷ raised xs ys

-- a base took the live records' place, and what was told is retired
abbrev pub turned_node : ℕ → Told → Node → Node
turned_node pages told n = record n {
  turning = record n.turning {
    pages = turned_pages pages told.settled (length n.turning.turns) n.turning.pages;
    retired = raised n.turning.retired told.acked;
    retired_outs = max n.turning.retired_outs told.emitted;
  };
}

abbrev pub turnover_node : Outcome → ℕ → Told → Node → Node
turnover_node Whole pages told n = turned_node pages told n
turnover_node Landed pages told n = down (turned_node pages told n)
turnover_node Lost pages told n = down n

-- an acknowledgement was taken
abbrev pub acked_node : ℕ → ℕ → Node → Node
acked_node from through n = record n { sending = record n.sending { acked = slice_set n.sending.acked from (max (slice_index n.sending.acked from) through) } }

abbrev pub emitted_node : Node → Node
emitted_node n = record n { sending = record n.sending { emitted = n.sending.emitted + 1 } }

abbrev pub crashed_node : List Page → Node → Node
crashed_node pages n = record n { turning = record n.turning { up = false }; patching = crashed_pages pages n.patching }

abbrev pub recovered_node : Node → Node
recovered_node n = record {
  turning = record n.turning { up = true; pages = recovered_turn_pages n.patching.image n.turning.pages };
  patching = recovered_image_pages n.turning.pages.live n.patching;
  sending = record { acked = n.turning.retired; emitted = n.turning.retired_outs };
}

-- the event is enabled at node v, where these packets were put, and makes n2 of n
abbrev pub NodeStep : Game → (Packet → Type 0) → ℕ → Node → Event → Node → Type 0
NodeStep g put v n (Seal node from draws pages) n2 = (t : Turn) × (MaySeal g put v n from draws pages t × (n2 ≡ sealed_node v t pages n))
NodeStep g put v n (SealCut node from draws pages landed) n2 = (t : Turn) × (MaySeal g put v n from draws pages t × (n2 ≡ cut_node landed v t pages n))
NodeStep g put v n (Patch node page) n2 = (first : Layer) × ((rest : List Layer) × ((c : Change) × (IsTrue n.turning.up × IsPatch n.patching page first rest c × (n2 ≡ patched_node first rest c n))))
NodeStep g put v n (SyncImage node) n2 = IsTrue n.turning.up × (n2 ≡ synced_node n)
NodeStep g put v n (Turnover node outcome told) n2 = MayTurn g n told × (n2 ≡ turnover_node outcome (heap_pages g) told n)
NodeStep g put v n (Send node to i) n2 = (m : Message) × (IsTrue n.turning.up × (to < g.nodes) × (unacked v to i n ≡ Some m) × (n2 ≡ n))
NodeStep g put v n (Ack node from) n2 = IsTrue n.turning.up × (from < g.nodes) × (0 < consumed_from from n.turning.turns) × (n2 ≡ n)
NodeStep g put v n (TakeAck node from through) n2 = IsTrue n.turning.up × (from < g.nodes) × put (Answer (record { from = from; to = v; through = through })) × (n2 ≡ acked_node from through n)
NodeStep g put v n (Emit node) n2 = (o : Out) × (IsTrue n.turning.up × (due n ≡ Some o) × (n2 ≡ emitted_node n))
NodeStep g put v n (Crash node pages) n2 = AreTorn n.patching pages × (n2 ≡ crashed_node pages n)
NodeStep g put v n (Recover node) n2 = (n.turning.up ≡ false) × ((p : ℕ) → n.patching.«open» p ≡ false) × (n2 ≡ recovered_node n)
