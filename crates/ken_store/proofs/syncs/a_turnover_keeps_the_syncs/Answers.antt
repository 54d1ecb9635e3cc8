use Rattle.ken_store.proofs.Worked.{turnover_works}
use Rattle.ken_store.proofs.syncs.a_turnover_keeps_the_syncs.Goals as goal

pub returns : goal.returns
returns g c = turnover_works g.D.Disk.told g.D.Disk.faults g.D.Disk.fate
