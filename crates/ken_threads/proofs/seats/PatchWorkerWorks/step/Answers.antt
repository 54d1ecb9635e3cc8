use Rattle.std.proofs.Common.{◌≡◌, Bool, true, false, Ok, subst}
use Rattle.std.proofs.lemmas.Result.{err_from_is_err_and}
use Rattle.ken_threads.specs.Seats.{Patches, synced, wrote}
use Rattle.ken_threads.proofs.Stops.{page_stops, sync_stops}
use Rattle.ken_threads.proofs.seats.PatchWorkerWorks.step.Given.{Over}
use Rattle.ken_threads.proofs.seats.PatchWorkerWorks.step.Goals as goal
use Rattle.ken_threads.proofs.seats.PatchWorkerWorks.step.Goals.{In_ok-patch_once}

-- its first call, with the answer
patched : (g : Over) (c : In_ok-patch_once g) (more : Bool) → c.in_ok-patch_once.field-0 ≡ more → Patches g.D.Disk (Ok more) c.args.self.now c.patch_once.new.self
patched g c more is =
    let one = c.in_ok-patch_once.ensures in
    subst (λ (b : Bool). Patches g.D.Disk (Ok b) c.args.self.now c.patch_once.new.self) is (record { same = one.same; patches = one.patches })

pub returns-in_err-patch_once-clause-fault : goal.returns-in_err-patch_once-clause-fault
returns-in_err-patch_once-clause-fault g c =
    let p = err_from_is_err_and c.from_residual.result c.from_residual.ensures.1 in
    let is = c.in_err-patch_once.ensures in
    rw (p.1, p.2) (page_stops g.D.Disk c.in_err-patch_once.field-0.0 c.args.self.now c.patch_once.new.self is.sound (record { same = is.same; patches = is.patches }))

pub returns-in_err-settle-clause-fault : goal.returns-in_err-settle-clause-fault
returns-in_err-settle-clause-fault g c =
    let p = err_from_is_err_and c.from_residual-in_err-settle.result c.from_residual-in_err-settle.ensures.1 in
    let one = patched g (goal.at.returns-in_err-settle-clause-fault g c).In_ok-patch_once false c.if-not-branch.true in
    let is = c.in_err-settle.ensures in
    rw (p.1, p.2) (sync_stops g.D.Disk c.in_err-settle.field-0.0 c.args.self.now c.patch_once.new.self c.settle.new.self one is.sound (record { same = is.same; settles = is.settles }))

pub returns-in_ok-settle-clause-step : goal.returns-in_ok-settle-clause-step
returns-in_ok-settle-clause-step g c =
    let two = c.in_ok-settle.ensures in
    synced c.patch_once.new.self (patched g (goal.at.returns-in_ok-settle-clause-step g c).In_ok-patch_once false c.if-not-branch.true) (record { same = two.same; settles = two.settles })

pub returns-else-not-branch-clause-step : goal.returns-else-not-branch-clause-step
returns-else-not-branch-clause-step g c = wrote (patched g (goal.at.returns-else-not-branch-clause-step g c).In_ok-patch_once true c.if-not-branch.false)
