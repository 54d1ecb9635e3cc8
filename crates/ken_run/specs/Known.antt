-- What a run knows of a node that is up, by the node of the core that it stands for.
use Rattle.std.specs.Prelude.{◌≡◌, ℕ, ◌≤◌, List, [], length, map, Option}
use Rattle.ken_disk.specs.Fates.{Fate}
use Rattle.ken_disk.specs.Story.{Story}
use Rattle.ken_model.specs.declared.messages.Out.{Out}
use Rattle.ken_model.specs.Game.{Game}
use Rattle.ken_model.specs.Restarts.{NeverFall}
use Rattle.ken_app.specs.Oracles.{Telling}
use Rattle.ken_core.specs.Nodes.{Node}
use Rattle.ken_store.specs.declared.disks.Disks.{Disks}
use Rattle.ken_node.specs.declared.watched.Watched.{Watched}
use Rattle.ken_node.specs.Stages.{HasDisks}
use Rattle.ken_node.specs.Synced.{HasSynced}
use Rattle.ken_run.specs.declared.station.Station.{Station}
use Rattle.ken_run.specs.Accounts.{AreRaised, HasDrawn, HasFailedOften, HasFates, HasNotFailed, Terms, draws_of}
use Rattle.ken_run.specs.Sequences.{descents}
use Rattle.ken_run.specs.Devices.{IsOf}

-- node v is n and has emitted these outputs: its syncs, its oracle, its restarts, its disks' faults and falls, and its emissions again
pub record HasAccount {D O U : Type 0} (told : Watched D → Option Story) (count : Watched D → ℕ) (fate : Watched D → Option Fate) (telling : Telling O) (terms : Terms) (g : Game) (v : ℕ) (n : Node) (outs : List Out) (s : Station D O U) : Type 0 where
  pub synced : (disks : Disks (Watched D)) → HasDisks disks s.node.stage → HasSynced told count (length n.turning.turns) disks
  pub drew : HasDrawn telling g.handler s.luck (draws_of n.turning.turns)
  pub origin : IsOf terms.scripted telling s.luck v terms.seed
  pub lines : NeverFall 0 s.lines.items (length n.turning.turns)
  pub few : length s.lines.items ≤ s.restarts
  pub most : s.restarts ≤ terms.most
  pub causes : HasFailedOften count s.restarts s.node.stage
  pub calm : s.lines.items ≡ [] → HasNotFailed count s.node.stage
  pub fates : HasFates fate terms.scripted (AreRaised (terms.cuts v) s.restarts) s.node.stage
  pub again : descents 0 (map (λ (o : Out). o.number) outs) ≤ length s.lines.items
