use Rattle.std.proofs.Common.{◌≡◌, sym, arith}
use Rattle.std.proofs.lemmas.Result.{err_from_is_err_and}
use Rattle.ken_disk.proofs.Fates.{fate_same}
use Rattle.ken_image.proofs.Filled.{filled_none, filled_more, filled_stops, filled_synced, filled_cause, filled_fate, filled_room}
use Rattle.ken_image.proofs.format.fill.Goals as goal

pub loop-page-init : goal.loop-page-init
loop-page-init g c = filled_none g.D.Disk.told g.D.Disk.size g.D.Disk.faults g.D.Disk.fate c.args.first.now c.args.disk.now

pub write-requires-clause-place : goal.write-requires-clause-place
write-requires-clause-place g c = omega (arith, c.place.ensures, c.loop-page.invariant.room)

pub returns-in_err-write-clause-calls : goal.returns-in_err-write-clause-calls
returns-in_err-write-clause-calls g c =
    let p = err_from_is_err_and c.from_residual.result c.from_residual.ensures.1 in
    rw (p.1, p.2) (filled_stops g.D.Disk.told g.D.Disk.size g.D.Disk.faults g.D.Disk.fate c.args.first.now c.loop-page.page c.args.disk.now c.loop-page.disk c.write.new.self c.loop-page.invariant _ c.args.pages c.loop-page-test.true _ c.in_err-write.was
    (rw (c.place.ensures, c.first_bytes.ensures.bytes) at c.write.ensures.story))

pub returns-in_err-write-clause-cause : goal.returns-in_err-write-clause-cause
returns-in_err-write-clause-cause g c =
    let p = err_from_is_err_and c.from_residual.result c.from_residual.ensures.1 in
    rw (p.1, p.2) (filled_cause g.D.Disk.told g.D.Disk.size g.D.Disk.faults g.D.Disk.fate c.args.first.now c.loop-page.page c.args.disk.now c.loop-page.disk c.write.new.self c.loop-page.invariant _ _ c.in_err-write.was c.write.ensures.cause)

pub returns-in_err-write-clause-fate : goal.returns-in_err-write-clause-fate
returns-in_err-write-clause-fate g c =
    let p = err_from_is_err_and c.from_residual.result c.from_residual.ensures.1 in
    rw (p.1, p.2) (filled_fate g.D.Disk.told g.D.Disk.size g.D.Disk.faults g.D.Disk.fate c.args.first.now c.loop-page.page c.args.disk.now c.loop-page.disk c.write.new.self c.loop-page.invariant _ _ c.in_err-write.was c.write.ensures.fate)

pub loop-page-preserved : goal.loop-page-preserved
loop-page-preserved g c =
    filled_more g.D.Disk.told g.D.Disk.size g.D.Disk.faults g.D.Disk.fate c.args.first.now c.loop-page.page c.args.disk.now c.loop-page.disk c.write.new.self c.loop-page.invariant _ _ c.in_ok-write.was
    (rw (c.place.ensures, c.first_bytes.ensures.bytes) at c.write.ensures.story) (omega (arith, c.in_ok-write.ensures.size, c.place.ensures, c.first_bytes.ensures.whole)) c.in_ok-write.ensures.cause (fate_same {T = Unit {0}} tt _ _ c.in_ok-write.ensures.fate)

pub returns-clause-calls : goal.returns-clause-calls
returns-clause-calls g c =
    let all : c.loop-page.page ≡ c.args.pages = omega (arith, c.loop-page-test.false, c.loop-page.auto.page-end) in
    rw (sym all) (filled_synced g.D.Disk.told g.D.Disk.size g.D.Disk.faults g.D.Disk.fate c.args.first.now c.loop-page.page c.args.disk.now c.loop-page.disk c.sync.new.self c.loop-page.invariant _ c.sync.ensures.story)

pub returns-clause-size : goal.returns-clause-size
returns-clause-size g c =
    let all : c.loop-page.page ≡ c.args.pages = omega (arith, c.loop-page-test.false, c.loop-page.auto.page-end) in
    rw (sym all) (filled_room g.D.Disk.told g.D.Disk.size g.D.Disk.faults g.D.Disk.fate c.args.first.now c.loop-page.page c.args.disk.now c.loop-page.disk c.sync.new.self c.loop-page.invariant _ c.sync.ensures.size)

pub returns-clause-cause : goal.returns-clause-cause
returns-clause-cause g c = rw (sym c.loop-page.invariant.quiet) c.sync.ensures.cause

pub returns-clause-fate : goal.returns-clause-fate
returns-clause-fate g c = rw (sym c.loop-page.invariant.up) c.sync.ensures.fate
