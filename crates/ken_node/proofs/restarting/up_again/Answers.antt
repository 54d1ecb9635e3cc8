use Rattle.std.proofs.Common.{refl}
use Rattle.ken_node.specs.declared.stage.Stage.TheVariants.{Uncreated}
use Rattle.ken_node.specs.Stages.{owner_in}
use Rattle.ken_node.proofs.RestartSynced.{less-synced, restarted-work, stage-synced}
use Rattle.ken_node.proofs.Restarted.{down-on, restarts-by}
use Rattle.ken_node.proofs.restarting.up_again.Goals as goal

pub recovered-requires-clause-down : goal.recovered-requires-clause-down
recovered-requires-clause-down g c =
    let r = c.requires in
    record {
      game = r.game;
      node = r.node;
      given = r.given;
      stood_for = r.stood_for;
      doubt = r.doubt;
      down = down-on g.D.Disk.told r.game r.node r.given r.stood_for r.doubt c.args.disks c.restart_all.new.disks c.args.parts c.restart_all.ensures.leave r.down;
    }

pub returns-in-Ok-clause-up : goal.returns-in-Ok-clause-up
returns-in-Ok-clause-up g c = λ game v given n doubt d.
    c.recovered.ensures.up game v given n doubt (down-on g.D.Disk.told game v given n doubt c.args.disks c.restart_all.new.disks c.args.parts c.restart_all.ensures.leave d)

pub returns-in-Ok-clause-down : goal.returns-in-Ok-clause-down
returns-in-Ok-clause-down g c = λ game v given n doubt d.
    c.recovered.ensures.down game v given n doubt (down-on g.D.Disk.told game v given n doubt c.args.disks c.restart_all.new.disks c.args.parts c.restart_all.ensures.leave d)

pub returns-in-Ok-clause-disks : goal.returns-in-Ok-clause-disks
returns-in-Ok-clause-disks g c = λ new has.
    restarts-by g.D.Disk.told g.D.Disk.faults g.D.Disk.fate (owner_in c.args.parts) c.args.pick c.recovered.result.1 c.args.disks c.restart_all.new.disks new c.in-Ok.ensures.ok (c.recovered.ensures.disks new has)

pub returns-in-Err-clause-down : goal.returns-in-Err-clause-down
returns-in-Err-clause-down g c = λ game v given n doubt d. down-on g.D.Disk.told game v given n doubt c.args.disks c.restart_all.new.disks c.args.parts c.restart_all.ensures.leave d

pub returns-in-Ok-clause-synced : goal.returns-in-Ok-clause-synced
returns-in-Ok-clause-synced g c = λ game v given n doubt d before.
    let all = c.restart_all.ensures in
    let new = c.restart_all.new.disks in
    c.recovered.ensures.synced game v given n doubt (down-on g.D.Disk.told game v given n doubt c.args.disks new c.args.parts all.leave d)
    (less-synced g.D.Disk.told g.D.Disk.faults game v c.args.disks new (restarted-work g.D.Disk.told g.D.Disk.faults c.args.disks new all.leave all.counts all.syncs) before)

pub returns-in-Err-clause-synced : goal.returns-in-Err-clause-synced
returns-in-Err-clause-synced g c = λ game v given n doubt d before.
    let all = c.restart_all.ensures in
    let new = c.restart_all.new.disks in
    stage-synced g.D.Disk.told g.D.Disk.faults game v new (Uncreated new c.args.parts) refl
    (less-synced g.D.Disk.told g.D.Disk.faults game v c.args.disks new (restarted-work g.D.Disk.told g.D.Disk.faults c.args.disks new all.leave all.counts all.syncs) before)
