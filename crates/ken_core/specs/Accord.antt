-- Accord: what holds of a group of nodes, whatever happened.
use Rattle.std.specs.Prelude.{◌≡◌, ℕ, ◌-◌, ◌<◌, ◌≤◌, List, [], length, slice_get, slice_index, Some, IsTrue}
use Rattle.std.specs.List.{AllByRecursion}
use Rattle.ken_model.specs.declared.messages.Message.{Message}
use Rattle.ken_model.specs.declared.messages.Out.{Out}
use Rattle.ken_model.specs.declared.reports.Emission.{Emission}
use Rattle.ken_model.specs.Game.{Game}
use Rattle.ken_model.specs.Network.{Turn, outside, first_place}
use Rattle.ken_model.specs.History.{AreTurns, place_of, consumed, messages, IsPrefixOf}
use Rattle.ken_model.specs.Emissions.{emitted_by, AreEmitted, largest_of}
use Rattle.ken_cover.specs.Covers.{Covers}
use Rattle.ken_model.specs.Reading.{read_value}
use Rattle.ken_core.specs.Turns.{sealed}
use Rattle.ken_core.specs.Nodes.{Node, heap_pages}
use Rattle.ken_core.specs.Clusters.{Cluster}

-- a number for each node of the run, each at most how many messages of v that node consumed in its turns h
pub record AreConsumed (g : Game) (h : ℕ → List Turn) (v : ℕ) (numbers : List ℕ) : Type 0 where
  pub width : length numbers ≡ g.nodes
  pub most : (x : ℕ) → slice_index numbers x ≤ length (consumed v (h x))

-- node v has made the turns ts and emitted os, and this agrees with the turns h of all nodes
pub record IsNodeOf (g : Game) (h : ℕ → List Turn) (v : ℕ) (ts : List Turn) (os : List Out) (n : Node) : Type 0 where
  -- it keeps its turns, which are its own, each after the one before
  pub turns : n.turning.turns ≡ sealed v ts
  pub own : AreTurns g v (first_place g) ts
  -- what it consumed from a sender is the front of what that one sent, or of the inputs
  pub order : (u : ℕ) → IsPrefixOf (consumed u ts) (messages g h u v)
  -- its heap stands for the value after its turns, and is covered
  pub value : read_value n.turning.pages.heap ≡ Some (place_of g ts).value
  pub covers : Covers (heap_pages g) n.turning.up n.turning.pages n.patching
  -- what is acknowledged or retired was consumed
  pub acked : AreConsumed g h v n.sending.acked
  pub retired : AreConsumed g h v n.turning.retired
  -- what it emitted is each an output of its turns, in order but for repeats; what counts as emitted or retired was
  pub legal : AreEmitted (place_of g ts).outs 0 os
  pub emitted : n.sending.emitted ≤ largest_of 0 os
  pub retired_outs : n.turning.retired_outs ≤ largest_of 0 os

-- a message was sent on its link, with its number and stamp, or is an input
pub record IsSent (g : Game) (h : ℕ → List Turn) (m : Message) : Type 0 where
  pub number : 0 < m.number
  pub stands : slice_get (messages g h m.from m.to) (m.number - 1) ≡ Some m

-- the message of a link and number
pub record IsAt (u v number : ℕ) (m : Message) : Type 0 where
  pub from : m.from ≡ u
  pub to : m.to ≡ v
  pub counted : m.number ≡ number

-- the nodes made the turns h, and came to the group w
pub record HasMade (g : Game) (h : ℕ → List Turn) (w : Cluster) : Type 0 where
  pub nodes : (v : ℕ) → IsNodeOf g h v (h v) (emitted_by v w.emissions) (w.node v)
  -- no node past those of the run makes a turn, and the outside is none of them
  pub few : g.nodes ≤ outside
  pub nobody : (v : ℕ) → g.nodes ≤ v → h v ≡ []
  -- each mail that was put was sent, and no acknowledgement that was put says more than was consumed
  pub mail : (u v number : ℕ) (m : Message) → w.mail u v number ≡ Some m → IsAt u v number m × IsSent g h m
  pub answer : (u v through : ℕ) → IsTrue (w.answer u v through) → through ≤ length (consumed v (h u))
  pub emitters : AllByRecursion (λ (e : Emission). e.node < g.nodes) w.emissions

-- the group is in accord
pub record Accord (g : Game) (w : Cluster) : Type 0 where
  pub history : ℕ → List Turn
  pub made : HasMade g history w
