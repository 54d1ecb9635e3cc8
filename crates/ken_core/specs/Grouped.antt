-- The words of a group's calls.
use Rattle.std.specs.Prelude.{◌≡◌, Bool}
use Rattle.ken_model.specs.Game.{Game, game_of}
use Rattle.ken_core.specs.declared.events.Event.{Event}
use Rattle.ken_core.specs.declared.group.Group.{Group}
use Rattle.ken_core.specs.Clusters.{Cluster}
use Rattle.ken_core.specs.Groups.{group_of, AreKept, Plays}

-- the game that a group plays
abbrev pub game_in : Group → Game
game_in g = game_of g.facts.now

-- the group as it stands
abbrev pub cluster_in : Group → Cluster
cluster_in g = group_of (game_in g) g.machines.items g.emissions.items

-- what its machines count is right
abbrev pub IsKept : Group → Type 0
IsKept g = AreKept (game_in g) g.machines.items

-- what a call that began with one group made of it
abbrev pub left_of : Group → Group → Cluster
left_of old new = group_of (game_in old) new.machines.items new.emissions.items

-- it let an event happen, by whether that did
abbrev pub Lets : Event → Group → Group → Bool → Type 0
Lets event old new happened = Plays (game_in old) (cluster_in old) event (left_of old new) happened

-- nothing has changed
abbrev pub StandsStill : Group → Group → Type 0
StandsStill old new = left_of old new ≡ cluster_in old
