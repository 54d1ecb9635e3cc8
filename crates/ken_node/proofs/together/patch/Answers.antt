use Rattle.ken_node.proofs.PatchSteps.{joined-patcher, patch-disks-met, patch-steps}
use Rattle.ken_node.proofs.Up.{are-up}
use Rattle.ken_node.proofs.ImageSyncs.{patch-story-met}
use Rattle.ken_node.proofs.together.patch.Goals as goal

pub patch_once-answer-requires : goal.patch_once-answer-requires
patch_once-answer-requires g c =
    let takes = c.requires in
    let up = are-up g.D.Disk.told g.D.Disk.size takes.game takes.node takes.stands_for c.args.turns.now c.args.patches.now c.args.sends.now takes.up in
    record { side = up.whole.pages.apart.patches.takes; unspent = up.unspent }

pub meet-requires : goal.meet-requires
meet-requires g c =
    let takes = c.requires in
    let up = are-up g.D.Disk.told g.D.Disk.size takes.game takes.node takes.stands_for c.args.turns.now c.args.patches.now c.args.sends.now takes.up in
    joined-patcher c.args.turns.now c.args.patches.now c.patch_once-answer.new.self c.args.sends.now up.whole.workers.joined c.patch_once-answer.ensures.same

pub returns-clause-steps : goal.returns-clause-steps
returns-clause-steps g c = λ game v n was.
    let up = are-up g.D.Disk.told g.D.Disk.size game v n c.args.turns.now c.args.patches.now c.args.sends.now was in
    let patched = c.patch_once-answer.ensures in
    let met = c.meet.ensures in
    patch-steps g.D.Disk.told g.D.Disk.size g.D.Disk.faults g.D.Disk.fate game v n c.args.turns.now c.meet.new.turns c.args.patches.now c.patch_once-answer.new.self c.meet.new.patches c.args.sends.now c.meet.new.sends
    up met.met met.joined met.sends (c.in_ok-meet.ensures.ok) c.patch_once-answer.result patched.sound patched.same patched.patches

pub returns-clause-disks : goal.returns-clause-disks
returns-clause-disks g c =
    let takes = c.requires in
    let up = are-up g.D.Disk.told g.D.Disk.size takes.game takes.node takes.stands_for c.args.turns.now c.args.patches.now c.args.sends.now takes.up in
    let met = c.meet.ensures in
    patch-disks-met g.D.Disk.told g.D.Disk.size g.D.Disk.faults g.D.Disk.fate takes.game takes.node takes.stands_for c.args.turns.now c.meet.new.turns c.args.patches.now c.patch_once-answer.new.self c.meet.new.patches c.args.sends.now c.meet.new.sends
    up met.met met.joined met.sends (c.in_ok-meet.ensures.ok) c.patch_once-answer.result c.patch_once-answer.ensures.sound c.patch_once-answer.ensures.patches

pub returns-clause-image : goal.returns-clause-image
returns-clause-image g c = patch-story-met g.D.Disk.told g.D.Disk.size g.D.Disk.faults g.D.Disk.fate c.args.turns.now c.meet.new.turns c.args.patches.now c.patch_once-answer.new.self c.meet.new.patches c.args.sends.now c.meet.new.sends c.meet.ensures.met _ c.patch_once-answer.ensures.patches

pub returns-in_err-meet-clause-image : goal.returns-in_err-meet-clause-image
returns-in_err-meet-clause-image g c = patch-story-met g.D.Disk.told g.D.Disk.size g.D.Disk.faults g.D.Disk.fate c.args.turns.now c.meet.new.turns c.args.patches.now c.patch_once-answer.new.self c.meet.new.patches c.args.sends.now c.meet.new.sends c.meet.ensures.met _ c.patch_once-answer.ensures.patches
