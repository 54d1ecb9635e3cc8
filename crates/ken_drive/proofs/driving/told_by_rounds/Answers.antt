-- A run makes its rounds, is drained, and tells what it says.
use denote.Param.Send.{sendable}
use Rattle.std.proofs.Common.{◌*◌}
use Rattle.ken_threads.proofs.gate.OpenGate.TheSendSync.{the_sync as open_gate}
use Rattle.ken_drive.proofs.Answering.{added}
use Rattle.ken_drive.proofs.Stopping.{rounds-failed}
use Rattle.ken_drive.proofs.driving.told_by_rounds.Goals as goal

pub threaded-requires : goal.threaded-requires
threaded-requires g c = let of_types = c.type_bounds in (of_types.send-D, (of_types.send-O, (of_types.send-U, (of_types.sync-R, (of_types.sync-A, (search (sendable, open_gate), c.requires))))))

pub told-requires : goal.told-requires
told-requires g c =
    let may = c.requires in
    record { game = may.game; made = may.made; running = c.in_ok-threaded.ensures.leaves may.game may.made may.running may.all; all = may.all }

pub returns-clause-tells : goal.returns-clause-tells
returns-clause-tells g c = λ terms game made running all accounted are plain.
    let rounded = c.in_ok-threaded.ensures in
    c.told.ensures.tells terms game made (rounded.leaves game made running all) all (rounded.accounts terms game made running all accounted) (rounded.refused terms game made running all are) plain

pub returns-clause-states : goal.returns-clause-states
returns-clause-states g c = added (λ w. g.D.Disk.told w.disk) (16 * c.args.rounds) c.args.run.now c.threaded.new.run c.told.new.run c.told.result c.in_ok-threaded.ensures.states c.told.ensures.states

pub returns-in_err-threaded-clause-tells : goal.returns-in_err-threaded-clause-tells
returns-in_err-threaded-clause-tells g c = λ terms game made running all accounted are plain.
    let rounded = c.in_err-threaded.ensures in
    rounds-failed (λ w. g.D.Disk.told w.disk) (λ w. g.D.Disk.size w.disk) (λ w. g.D.Disk.faults w.disk) (λ w. g.D.Disk.fate w.disk) g.O.Oracle.telling g.U.Outlet.took g.A.App.handler g.U.Outlet.faults g.U.Outlet.fate terms game c.threaded.new.run made all c.from_residual.result c.in_err-threaded.field-0.0 c.from_residual.ensures.1
    (rounded.accounts terms game made running all accounted) (rounded.leaves game made running all) (rounded.stops terms game made running all accounted are) (rounded.refused terms game made running all are)
