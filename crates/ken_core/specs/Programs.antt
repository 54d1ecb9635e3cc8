-- What a program that plays a group stands for.
use Rattle.ken_model.specs.declared.facts.Facts.{Facts}
use Rattle.ken_model.specs.Game.{game_of}
use Rattle.ken_core.specs.declared.cluster.Cluster.{Cluster as Program}
use Rattle.ken_core.specs.Clusters.{Cluster}
use Rattle.ken_core.specs.Groups.{group_of, AreKept}

-- what it plays
abbrev pub facts_of : Program → Facts
facts_of c = c.group.facts.now

abbrev pub cluster_of : Program → Cluster
cluster_of c = group_of (game_of c.group.facts.now) c.group.machines.items c.group.emissions.items

-- what it keeps beside the turns is as they say
abbrev pub IsSound : Program → Type 0
IsSound c = AreKept (game_of c.group.facts.now) c.group.machines.items
