-- What a node's workers are made of.
use Rattle.std.specs.Prelude.{◌≡◌, ℕ, ◌≤◌, [], vec_capacity, vec_len}
use Rattle.ken_model.specs.Game.{Game}
use Rattle.ken_model.specs.Network.{inputs_for}
use Rattle.ken_core.specs.Nodes.{heap_pages}
use Rattle.ken_links.specs.declared.push_end.PushEnd.{PushEnd}
use Rattle.ken_links.specs.declared.pop_end.PopEnd.{PopEnd}
use Rattle.ken_links.specs.Rings.{pushed, free, popped, IsRing}
use Rattle.ken_outbox.specs.Waiting.{nothing}
use Rattle.ken_ship.specs.Parts.{Part, part_of}
use Rattle.ken_work.specs.declared.parts.Parts.{Parts}

-- a ring that nothing was pushed to, with all its slots known to be free
pub record IsNewRing {T : Type 0} (push : PushEnd T) (pop : PopEnd T) : Type 0 where
  pub ring : IsRing push pop
  pub none_pushed : pushed push ≡ []
  pub none_popped : popped pop ≡ []
  pub all_free : free push ≡ 64

-- an externaliser that was handed nothing
abbrev pub first_part : Part
first_part = record { due = nothing 8; emissions = []; refusals = 0; told = []; handed = 0 }

-- what the workers of node v of a run are made of: its inputs, no turn, and new rings
pub record AreFirst (g : Game) (v : ℕ) (x : Parts) : Type 0 where
  pub node : x.node ≡ v
  pub nodes : x.nodes ≡ g.nodes
  pub size : x.size ≡ heap_pages g
  pub cap : x.cap ≡ g.turns
  pub inputs : x.inputs.items ≡ inputs_for g v
  pub turns : x.turns.items ≡ []
  pub room : (64 ≤ vec_capacity x.news) × (vec_len x.news ≡ 0)
  pub pages : IsNewRing x.pages.0 x.pages.1
  pub settled : IsNewRing x.settled.0 x.settled.1
  pub sealed : IsNewRing x.sealed x.sends.sealed
  pub progress : IsNewRing x.sends.told x.progress
  pub sender : x.sends.backlog.node ≡ v
  pub receivers : x.sends.nodes ≡ g.nodes
  pub part : part_of x.sends ≡ first_part
