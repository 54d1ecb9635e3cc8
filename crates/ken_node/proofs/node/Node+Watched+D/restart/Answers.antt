use Rattle.ken_node.specs.Synced.{IsSynced}
use Rattle.std.proofs.Common.{subst, sym}
use Rattle.std.specs.Prelude.{IfOk, OnErr}
use Rattle.ken_node.specs.declared.stage.Stage.{Stage}
use Rattle.ken_node.specs.declared.watched.Watched.{Watched}
use Rattle.ken_node.specs.Down.{IsDown, MayRestart}
use Rattle.ken_node.specs.Restarts.{IsUpAgain, RestartsBy, pick_of}
use Rattle.ken_node.specs.Stages.{HasDisks, disk_owner, refusals_in}
use Rattle.ken_work.specs.Parts.{CountsAnew}
use Rattle.ken_node.proofs.node.Node+Watched+D.restart.Goals as goal

pub restarted-stage-requires : goal.restarted-stage-requires
restarted-stage-requires g c = subst (MayRestart (λ (w : Watched g.row.D.Denot). g.D.Disk.told w.disk)) (sym c.replace.ensures.value) c.requires

pub returns-clause-up : goal.returns-clause-up
returns-clause-up g c = λ game v given n doubt d.
    let told = λ (w : Watched g.row.D.Denot). g.D.Disk.told w.disk in
    let size = λ (w : Watched g.row.D.Denot). g.D.Disk.size w.disk in
    subst (λ (s : Stage (Watched g.row.D.Denot)). IfOk c.restarted-stage.result.1 (λ turns. IsUpAgain told size game v given n doubt turns s)) (sym c.replace-2.ensures.after)
    (c.restarted-stage.ensures.up game v given n doubt (subst (IsDown told game v given n doubt) (sym c.replace.ensures.value) d))

pub returns-clause-down : goal.returns-clause-down
returns-clause-down g c = λ game v given n doubt d.
    let told = λ (w : Watched g.row.D.Denot). g.D.Disk.told w.disk in
    subst (λ (s : Stage (Watched g.row.D.Denot)). OnErr c.restarted-stage.result.1 (IsDown told game v given n doubt s)) (sym c.replace-2.ensures.after)
    (c.restarted-stage.ensures.down game v given n doubt (subst (IsDown told game v given n doubt) (sym c.replace.ensures.value) d))

pub returns-clause-disks : goal.returns-clause-disks
returns-clause-disks g c = λ old new has now.
    let told = λ (w : Watched g.row.D.Denot). g.D.Disk.told w.disk in
    let faults = λ (w : Watched g.row.D.Denot). g.D.Disk.faults w.disk in
    let fate = λ (w : Watched g.row.D.Denot). g.D.Disk.fate w.disk in
    let pick = pick_of (λ w. g.D.Disk.hinted w.disk) old in
    subst (λ (s : Stage (Watched g.row.D.Denot)). RestartsBy told faults fate (disk_owner s) pick c.restarted-stage.result.1 old new) c.replace.ensures.value
    (c.restarted-stage.ensures.disks old new (subst (HasDisks old) (sym c.replace.ensures.value) has) (subst (HasDisks new) c.replace-2.ensures.after now))

pub returns-clause-synced : goal.returns-clause-synced
returns-clause-synced g c = λ game v given n doubt d before.
    let told = λ (w : Watched g.row.D.Denot). g.D.Disk.told w.disk in
    let faults = λ (w : Watched g.row.D.Denot). g.D.Disk.faults w.disk in
    subst (IsSynced told faults game v) (sym c.replace-2.ensures.after)
    (c.restarted-stage.ensures.synced game v given n doubt (subst (IsDown told game v given n doubt) (sym c.replace.ensures.value) d) (subst (IsSynced told faults game v) (sym c.replace.ensures.value) before))

pub returns-clause-refusals : goal.returns-clause-refusals
returns-clause-refusals g c =
    let answer = c.restarted-stage.result.1 in
    let stage = c.restarted-stage.result.0 in
    subst (λ (s : Stage (Watched g.row.D.Denot)). CountsAnew answer (refusals_in c.args.self.now.stage) (refusals_in s)) (sym c.replace-2.ensures.after)
    (subst (λ (s : Stage (Watched g.row.D.Denot)). CountsAnew answer (refusals_in s) (refusals_in stage)) c.replace.ensures.value c.restarted-stage.ensures.refusals)
