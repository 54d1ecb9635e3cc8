-- A node of a run, with all that is its own.
use Rattle.std.specs.Prelude.{◌≡◌, ℕ, ◌+◌, List, [], ◌∷◌, ◌++◌, length, Option, Result, Ok, Err, IfSome}
use Rattle.ken_disk.specs.Story.{Story}
use Rattle.ken_model.specs.declared.messages.Out.{Out}
use Rattle.ken_model.specs.Game.{Game}
use Rattle.ken_net.specs.Standings.{Leaving}
use Rattle.ken_core.specs.Calls.{Doubt}
use Rattle.ken_core.specs.Clusters.{Cluster, emissions_by}
use Rattle.ken_core.specs.Nodes.{Node}
use Rattle.ken_core.specs.Packets.{Packet}
use Rattle.ken_ship.specs.declared.faults.NodeFault.{NodeFault}
use Rattle.ken_ship.specs.declared.faults.NodeFault.TheVariants.{Disk, Damaged, Outlet, Memory}
use Rattle.ken_node.specs.declared.watched.Watched.{Watched}
use Rattle.ken_node.specs.Down.{IsDown}
use Rattle.ken_node.specs.Restarts.{IsUpAgain}
use Rattle.ken_node.specs.Stages.{emissions_in}
use Rattle.ken_flow.specs.Flows.{KeepKnown}
use Rattle.ken_run.specs.declared.station.Station.{Station}

-- links of one kind from node v to each node of the run, which keep only what was put
pub record AreLinksOf (g : Game) (w : Cluster) (v : ℕ) (links : Leaving) : Type 0 where
  pub from : links.from ≡ v
  pub to_each : length links.links ≡ g.nodes
  pub known : KeepKnown g w links.links

module _ {D O U : Type 0} (took : U → Option (List Out)) where
  -- what node v has emitted: its node kept it, and its outlet took it, where it tells
  pub record HasEmitted (v : ℕ) (outs : List Out) (s : Station D O U) : Type 0 where
    pub kept : emissions_in s.node.stage ≡ emissions_by v outs
    pub took_it : IfSome (took s.out) (λ told. told ≡ outs)

  -- all of a station but its node
  pub record IsStation (g : Game) (w : Cluster) (v : ℕ) (outs : List Out) (s : Station D O U) : Type 0 where
    pub mail : AreLinksOf g w v s.mail
    pub acks : AreLinksOf g w v s.acks
    pub emitted : HasEmitted v outs s

module _ {D O U : Type 0} (told : Watched D → Option Story) (size : Watched D → ℕ) where
  -- what a restart of node v leaves, which stood for n and had this in doubt: by the answer it is up again, with so many turns, or
  -- it is down as it was
  abbrev pub RestartsStation : Result (Unit {0}) NodeFault → Game → ℕ → List Packet → Node → Doubt → Station D O U → Station D O U → Type 0
  RestartsStation (Ok x) g v given n doubt old new = (turns : ℕ) × (IsUpAgain told size g v given n doubt turns new.node.stage × (new.lines.items ≡ old.lines.items ++ turns ∷ []) × (new.restarts ≡ old.restarts + 1))
  RestartsStation (Err Disk) g v given n doubt old new = IsDown told g v given n doubt new.node.stage × (new.lines.items ≡ old.lines.items) × (new.restarts ≡ old.restarts + 1)
  RestartsStation (Err Memory) g v given n doubt old new = Unit {0}
  RestartsStation (Err Outlet) g v given n doubt old new = ⊥
  RestartsStation (Err (Damaged disk place)) g v given n doubt old new = ⊥
