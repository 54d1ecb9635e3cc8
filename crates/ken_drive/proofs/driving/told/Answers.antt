-- A run is drained, and tells what it says.
use Rattle.ken_drive.specs.Ended.{IsEnded}
use Rattle.ken_run.proofs.Drained.{have_images}
use Rattle.ken_drive.proofs.Stopping.{end-failed}
use Rattle.ken_drive.proofs.driving.told.Goals as goal

pub lines-requires : goal.lines-requires
lines-requires g c =
    let may = c.requires in
    let has = c.in_ok-drain.ensures.drains may.game may.made may.running may.all in
    record { game = may.game; ended = record { made = may.made; running = has.0; all = may.all; ended = has.1 } }

pub returns-clause-tells : goal.returns-clause-tells
returns-clause-tells g c = λ terms game made running all accounted are plain.
    let drained = c.in_ok-drain.ensures in
    let has = drained.drains game made running all in
    let ended : IsEnded (λ w. g.D.Disk.told w.disk) (λ w. g.D.Disk.size w.disk) g.U.Outlet.took g.A.App.handler game c.drain.new.self = record { made = made; running = has.0; all = all; ended = has.1 } in
    record {
      ended = ended;
      report = c.in_ok-lines.ensures game ended plain;
      accounts = drained.accounts terms game made running all accounted;
      refusals = drained.refused terms game made running all are;
    }

pub returns-clause-images : goal.returns-clause-images
returns-clause-images g c =
    have_images (λ w. g.D.Disk.told w.disk) (λ w. g.D.Disk.size w.disk) g.U.Outlet.took g.A.App.handler c.args.run.now c.drain.new.self c.in_ok-drain.ensures.passes

pub returns-in_err-drain-clause-tells : goal.returns-in_err-drain-clause-tells
returns-in_err-drain-clause-tells g c = λ terms game made running all accounted are plain.
    let failed = c.in_err-drain.ensures in
    end-failed (λ w. g.D.Disk.told w.disk) (λ w. g.D.Disk.size w.disk) (λ w. g.D.Disk.faults w.disk) (λ w. g.D.Disk.fate w.disk) g.O.Oracle.telling g.U.Outlet.took g.A.App.handler g.U.Outlet.faults g.U.Outlet.fate terms game c.drain.new.self made all c.from_residual.result c.in_err-drain.field-0.0 c.from_residual.ensures.1
    (failed.accounts terms game made running all accounted) (failed.drains game made running all) (failed.stops terms game made running all accounted are) (failed.refused terms game made running all are)
