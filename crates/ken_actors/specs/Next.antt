-- What comes next for a node.
use Rattle.std.specs.Prelude.{◌≡◌, ◌+◌, ◌<◌, ◌≤◌, ◌^◌, List, Some}
use Rattle.ken_model.specs.declared.facts.Facts.{Facts}
use Rattle.ken_model.specs.declared.messages.Message.{Message}
use Rattle.ken_model.specs.declared.messages.Step.{Step}
use Rattle.ken_model.specs.Network.{front}
use Rattle.ken_actors.specs.Held.{Held, held_at, link_of, taken_from, turns_made}

-- the step takes this message, and what counting it changes has room
pub record IsNext (f : Facts) (hs : List Held) (s : Step) (m : Message) : Type 0 where
  pub waits : front (link_of hs s.from s.node) ≡ Some m
  pub more : (held_at hs s.node).turns < f.turns
  pub known : s.node < f.nodes
  pub sender : s.from < 255 → s.from < f.nodes
  pub room : taken_from (held_at hs s.node) s.from + 1 < 2 ^ 64
  pub few : turns_made hs ≤ 800000
  pub early : (m.stamp ≤ turns_made hs) × ((held_at hs s.node).stamp ≤ turns_made hs)
