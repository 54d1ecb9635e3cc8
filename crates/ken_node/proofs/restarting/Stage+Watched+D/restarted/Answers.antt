use Rattle.ken_node.proofs.RestartSynced.{stage-synced}
use Rattle.ken_store.specs.declared.disks.Disks.{Disks}
use Rattle.ken_store.specs.declared.owner.Owner.{Owner}
use Rattle.ken_node.specs.declared.watched.Watched.{Watched}
use Rattle.ken_node.specs.Synced.{LeavesSynced}
use Rattle.std.proofs.Common.{ℕ, refl, subst}
use Rattle.ken_node.specs.Down.{IsOfNode}
use Rattle.ken_node.specs.Restarts.{RestartsBy, pick_of}
use Rattle.ken_node.specs.Stages.{owner_in, refusals_in}
use Rattle.ken_work.specs.Parts.{CountsAnew}
use Rattle.ken_node.proofs.Fresh.{has-one}
use Rattle.ken_node.proofs.restarting.Stage+Watched+D.restarted.Goals as goal

pub up_again-requires : goal.up_again-requires
up_again-requires g c =
    let r = c.requires in
    record { game = r.game; node = r.node; given = r.given; stood_for = r.stood_for; doubt = r.doubt; down = c.in-Ok.ensures.down r.game r.node r.given r.stood_for r.doubt r.down }

pub returns-in-Ok-clause-up : goal.returns-in-Ok-clause-up
returns-in-Ok-clause-up g c = λ game v given n doubt d. c.up_again.ensures.up game v given n doubt (c.in-Ok.ensures.down game v given n doubt d)

pub returns-in-Ok-clause-down : goal.returns-in-Ok-clause-down
returns-in-Ok-clause-down g c = λ game v given n doubt d. c.up_again.ensures.down game v given n doubt (c.in-Ok.ensures.down game v given n doubt d)

pub returns-in-Ok-clause-disks : goal.returns-in-Ok-clause-disks
returns-in-Ok-clause-disks g c = λ old new has now.
    let same = c.in-Ok.ensures.disks old has in
    let told = λ (w : Watched g.row.D.Denot). g.D.Disk.told w.disk in
    let faults = λ (w : Watched g.row.D.Denot). g.D.Disk.faults w.disk in
    let fate = λ (w : Watched g.row.D.Denot). g.D.Disk.fate w.disk in
    rw same (subst (λ (o : Owner). RestartsBy told faults fate o (pick_of (λ w. g.D.Disk.hinted w.disk) c.in-Ok.disks) c.up_again.result.1 c.in-Ok.disks new) c.in-Ok.ensures.owner
    (subst (λ (k : ℕ). RestartsBy told faults fate (owner_in c.in-Ok.parts) k c.up_again.result.1 c.in-Ok.disks new) c.pick_of-pick.ensures (c.up_again.ensures.disks new now)))

pub returns-in-Err-clause-here : goal.returns-in-Err-clause-here
returns-in-Err-clause-here g c = λ is.
    let r = c.requires in
    let d = c.in-Err.ensures.down r.game r.node r.given r.stood_for r.doubt r.down in
    subst (IsOfNode r.game r.node) is d.of_node

pub returns-in-Err-clause-disks : goal.returns-in-Err-clause-disks
returns-in-Err-clause-disks g c = λ old new has now. let same = has-one old new c.in-Err.stage (c.in-Err.ensures.disks old has) now in rw same (refl, refl, refl)

pub returns-in-Ok-clause-synced : goal.returns-in-Ok-clause-synced
returns-in-Ok-clause-synced g c = λ game v given n doubt d before.
    let told = λ (w : Watched g.row.D.Denot). g.D.Disk.told w.disk in
    let faults = λ (w : Watched g.row.D.Denot). g.D.Disk.faults w.disk in
    let same = c.in-Ok.ensures.disks d.disks d.has in
    c.up_again.ensures.synced game v given n doubt (c.in-Ok.ensures.down game v given n doubt d) (subst (λ (x : Disks (Watched g.row.D.Denot)). LeavesSynced told faults game v x) same (before d.disks d.has))

pub returns-in-Err-clause-synced : goal.returns-in-Err-clause-synced
returns-in-Err-clause-synced g c = λ game v given n doubt d before.
    let told = λ (w : Watched g.row.D.Denot). g.D.Disk.told w.disk in
    let faults = λ (w : Watched g.row.D.Denot). g.D.Disk.faults w.disk in
    stage-synced told faults game v d.disks c.in-Err.stage (c.in-Err.ensures.disks d.disks d.has) (before d.disks d.has)

pub returns-in-Ok-clause-refusals : goal.returns-in-Ok-clause-refusals
returns-in-Ok-clause-refusals g c = subst (λ (k : ℕ). CountsAnew c.up_again.result.1 k (refusals_in c.up_again.result.0)) c.in-Ok.ensures.refusals c.up_again.ensures.refusals
