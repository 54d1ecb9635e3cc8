-- A node that isn't created yet, over empty disks.
use Rattle.ken_model.specs.Game.{game_of}
use Rattle.ken_drive.specs.Starting.{terms_of}
use Rattle.ken_run.proofs.StartingNode.{fresh-blank}
use Rattle.ken_drive.proofs.devices.uncreated.Goals as goal

pub returns-in-Ok-clause-blank : goal.returns-in-Ok-clause-blank
returns-in-Ok-clause-blank g c = record {
  disks = c.in_ok-disks.disks;
  uncreated = c.in-Ok.ensures.ok;
  log = c.in_ok-disks.ensures.log;
  image = c.in_ok-disks.ensures.image;
  second = c.in_ok-disks.ensures.second;
}

pub returns-in-Ok-clause-fresh : goal.returns-in-Ok-clause-fresh
returns-in-Ok-clause-fresh g c =
    fresh-blank (λ w. g.W.Dev.Disk.told w.disk) (λ w. g.W.Dev.Disk.faults w.disk) (λ w. g.W.Dev.Disk.fate w.disk) (terms_of g.W.World.scripted c.args.script.now) (game_of c.args.script.now.facts) c.args.node c.in_ok-disks.disks c.in-Ok.uncreated.stage c.in-Ok.ensures.ok c.in_ok-disks.ensures.fresh
