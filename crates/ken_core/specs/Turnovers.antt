-- A turnover, as the code makes it.
use Rattle.std.specs.Prelude.{◌≡◌, ◌≤◌, max, List, length, true}
use Rattle.ken_cover.specs.declared.layers.Layer.{Layer}
use Rattle.ken_cover.specs.Covers.{MayLeaveOut}
use Rattle.ken_core.specs.declared.events.Told.{Told}
use Rattle.ken_core.specs.declared.events.Outcome.{Outcome}
use Rattle.ken_core.specs.declared.machine.Machine.{Machine}
use Rattle.ken_core.specs.Nodes.{Node}
use Rattle.ken_core.specs.Enabled.{AreAtMost}
use Rattle.ken_core.specs.Steps.{raised, turnover_node}
use Rattle.ken_core.specs.Machines.{turn_pages, image_pages}
use Rattle.ken_core.specs.Groups.{node_in}
use Rattle.ken_core.specs.Marking.{KeepsRest}

-- what was told is known to the node
pub record IsKnown (told : Told) (m : Machine) : Type 0 where
  pub width : length told.acked ≡ length m.acked.items
  pub acked : AreAtMost told.acked m.acked.items
  pub emitted : told.emitted ≤ m.emitted

-- each page that a base leaves out is clean
abbrev pub IsClean : Told → Machine → Type 0
IsClean told m = MayLeaveOut told.settled (turn_pages m.pages) (image_pages m.pages)

-- the live records became these, and what was told is retired
abbrev pub rebased_node : List Layer → Told → Node → Node
rebased_node live told n = record n {
  turning = record n.turning {
    pages = record n.turning.pages { live = live };
    retired = raised n.turning.retired told.acked;
    retired_outs = max n.turning.retired_outs told.emitted;
  };
}

-- the turnover was made
pub record TurnsOver (outcome : Outcome) (told : Told) (m m2 : Machine) : Type 0 where
  pub up : m.up ≡ true
  pub known : IsKnown told m
  pub clean : IsClean told m
  pub new : node_in m2 ≡ turnover_node outcome (length m.pages.unclean) told (node_in m)
  pub rest : KeepsRest m m2

-- it isn't enabled
abbrev pub MayNotTurn : Told → Machine → Type 0
MayNotTurn told m = m.up ≡ true → IsKnown told m → IsClean told m → ⊥
