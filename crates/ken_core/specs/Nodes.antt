-- A node, in three parts by who works on it.
use Rattle.std.specs.Prelude.{ℕ, ◌/◌, List, [], replicate, Bool, true}
use Rattle.ken_model.specs.declared.facts.TheConstants.{PAGE}
use Rattle.ken_model.specs.Game.{Game}
use Rattle.ken_model.specs.Layout.{first_heap}
use Rattle.ken_cover.specs.Sides.{TurnPages, ImagePages, first_turn_pages, first_image_pages}
use Rattle.ken_record.specs.declared.effects.Effects.{Effects}

-- the handler's part: whether the node is up, its sealed turns, its heap with the live records, and the retired numbers: of
-- the messages to each node, and of its outputs
pub record TurnSide : Type 0 where
  pub up : Bool
  pub turns : List Effects
  pub pages : TurnPages
  pub retired : List ℕ
  pub retired_outs : ℕ

-- the sender's part: the acknowledged number of the messages to each node, and the emitted number
pub record SendSide : Type 0 where
  pub acked : List ℕ
  pub emitted : ℕ

-- a node; the patcher's part is its image, with what is still to be written there
pub record Node : Type 0 where
  pub turning : TurnSide
  pub patching : ImagePages
  pub sending : SendSide

-- how many pages a heap of the game has
abbrev pub heap_pages : Game → ℕ
heap_pages g = g.size / PAGE

-- a node at the start, with its first heap in its image
abbrev pub first_node : Game → Node
first_node g = record {
  turning = record { up = true; turns = []; pages = first_turn_pages (first_heap (heap_pages g)); retired = replicate g.nodes 0; retired_outs = 0 };
  patching = first_image_pages (first_heap (heap_pages g));
  sending = record { acked = replicate g.nodes 0; emitted = 0 };
}
