use Rattle.std.proofs.Common.{◌≡◌, subst}
use Rattle.ken_node.specs.declared.stage.Stage.TheVariants.{Created}
use Rattle.ken_node.specs.Down.{IsDown}
use Rattle.ken_node.specs.Restarting.{stage_of}
use Rattle.ken_node.proofs.Parted.{parted-down}
use Rattle.ken_node.proofs.stage.Stage.taken_apart.Goals as goal

pub returns-in-Created-clause-down : goal.returns-in-Created-clause-down
returns-in-Created-clause-down g c = λ game v given n doubt was.
    let e = c.parted.ensures in
    let t = c.in-Created.turns in
    let p = c.in-Created.patches in
    let s = c.in-Created.sends in
    let is : c.args.self ≡ Created t p s = cc in
    let d = subst (IsDown g.D.Disk.told game v given n doubt) is was in
    parted-down g.D.Disk.told game v given n doubt t p s (stage_of c.parted.result) d (e.of_node game v d.limits d.of_node.0) e.turns e.disks
