use Rattle.ken_drive.proofs.Keeping.{keeps-run}
use Rattle.ken_drive.proofs.laws.ended_runs_keep.Goals as goal

pub returns : goal.returns
returns g c = λ scripted h r terms l ended report accounts refusals images few kept each others.
    keeps-run (record { told = g.D.Disk.told; faults = g.D.Disk.faults; fate = g.D.Disk.fate; telling = g.O.Oracle.telling; took = g.U.Outlet.took; refused = g.U.Outlet.faults; calls = g.U.Outlet.fate; scripted = scripted }) g.D.Disk.size g.A.App.handler h r terms l ended report accounts refusals images few c.history_is_legal.ensures c.apart_recovers.ensures c.a_node_has_synced.ensures kept each others
