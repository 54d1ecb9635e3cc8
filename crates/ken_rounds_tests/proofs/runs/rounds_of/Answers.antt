-- A run that made rounds may go on.
use Rattle.std.proofs.Common.{◌≡◌, ℕ, List, Option, Result, Ok, Err, OnOk}
use Rattle.ken_disk.specs.Story.{Story}
use Rattle.ken_model.specs.declared.messages.Out.{Out}
use Rattle.ken_model.specs.Game.{Game}
use Rattle.ken_model.specs.Handler.{Handler}
use Rattle.ken_node.specs.declared.watched.Watched.{Watched}
use Rattle.ken_run.specs.declared.faults.RunFault.{RunFault}
use Rattle.ken_run.specs.declared.run.Run.{Run}
use Rattle.ken_run.specs.Draining.{MayDrain}
use Rattle.ken_run.specs.Running.{IsRunning}
use Rattle.ken_rounds.specs.Shaken.{LeavesRoundsBy}
use Rattle.ken_rounds_tests.proofs.runs.rounds_of.Goals as goal

module _ {D O U A T : Type 0} (told : Watched D → Option Story) (size : Watched D → ℕ) (took : U → Option (List Out)) (handles : A → Handler) (old new : Run D O U A) where
  goes-on : (result : Result T RunFault) → MayDrain told size took handles old → ((g : Game) (made : ℕ) → IsRunning told size took handles g made old → made ≡ g.nodes → LeavesRoundsBy told size took handles result g made new)
      → OnOk result (MayDrain told size took handles new)
  goes-on (Ok x) may leaves = record { game = may.game; made = may.made; running = leaves may.game may.made may.running may.all; all = may.all }
  goes-on (Err fault) may leaves = tt

pub returns : goal.returns
returns g c = goes-on _ _ _ _ c.args.run.now c.threaded.new.run c.threaded.result c.requires c.threaded.ensures.leaves
