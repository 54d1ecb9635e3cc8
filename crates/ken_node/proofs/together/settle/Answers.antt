use Rattle.std.proofs.Common.{arith}
use Rattle.ken_node.proofs.PatchSteps.{joined-patcher, settle-disks-met, settle-steps}
use Rattle.ken_node.proofs.Up.{are-up}
use Rattle.ken_node.proofs.ImageSyncs.{settle-sync-met}
use Rattle.ken_node.proofs.together.settle.Goals as goal

pub settle-answer-requires-clause-takes : goal.settle-answer-requires-clause-takes
settle-answer-requires-clause-takes g c =
    let takes = c.requires in
    let up = are-up g.D.Disk.told g.D.Disk.size takes.game takes.node takes.stands_for c.args.turns.now c.args.patches.now c.args.sends.now takes.up in
    record { side = up.whole.pages.apart.patches.takes; unspent = up.unspent }

pub meet-requires : goal.meet-requires
meet-requires g c =
    let takes = c.requires in
    let up = are-up g.D.Disk.told g.D.Disk.size takes.game takes.node takes.stands_for c.args.turns.now c.args.patches.now c.args.sends.now takes.up in
    joined-patcher c.args.turns.now c.args.patches.now c.settle-answer.new.self c.args.sends.now up.whole.workers.joined c.settle-answer.ensures.same

pub returns-clause-steps : goal.returns-clause-steps
returns-clause-steps g c = λ game v n was.
    let up = are-up g.D.Disk.told g.D.Disk.size game v n c.args.turns.now c.args.patches.now c.args.sends.now was in
    let done = c.settle-answer.ensures in
    let met = c.meet.ensures in
    settle-steps g.D.Disk.told g.D.Disk.size g.D.Disk.faults g.D.Disk.fate game v n c.args.turns.now c.meet.new.turns c.args.patches.now c.settle-answer.new.self c.meet.new.patches c.args.sends.now c.meet.new.sends
    up met.met met.joined met.sends (c.in_ok-meet.ensures.ok) c.settle-answer.result done.sound done.same done.settles

pub returns-clause-disks : goal.returns-clause-disks
returns-clause-disks g c =
    let takes = c.requires in
    let up = are-up g.D.Disk.told g.D.Disk.size takes.game takes.node takes.stands_for c.args.turns.now c.args.patches.now c.args.sends.now takes.up in
    let met = c.meet.ensures in
    settle-disks-met g.D.Disk.told g.D.Disk.size g.D.Disk.faults g.D.Disk.fate takes.game takes.node takes.stands_for c.args.turns.now c.meet.new.turns c.args.patches.now c.settle-answer.new.self c.meet.new.patches c.args.sends.now c.meet.new.sends
    up met.met met.joined met.sends (c.in_ok-meet.ensures.ok) c.settle-answer.result c.settle-answer.ensures.sound c.settle-answer.ensures.settles

pub settle-answer-requires-clause-slot : goal.settle-answer-requires-clause-slot
settle-answer-requires-clause-slot g c =
    let takes = c.requires in
    let up = are-up g.D.Disk.told g.D.Disk.size takes.game takes.node takes.stands_for c.args.turns.now c.args.patches.now c.args.sends.now takes.up in
    let free_now = up.empty.settled.free_now in
    omega (arith, free_now)

pub returns-clause-image : goal.returns-clause-image
returns-clause-image g c = settle-sync-met g.D.Disk.told g.D.Disk.size g.D.Disk.faults g.D.Disk.fate c.args.turns.now c.meet.new.turns c.args.patches.now c.settle-answer.new.self c.meet.new.patches c.args.sends.now c.meet.new.sends c.meet.ensures.met c.settle-answer.result c.settle-answer.ensures.settles
