use Rattle.ken_store.proofs.Worked.{seal_works}
use Rattle.ken_store.proofs.syncs.a_seal_takes_two_syncs.Goals as goal

pub returns : goal.returns
returns g c = seal_works g.D.Disk.told g.D.Disk.faults g.D.Disk.fate
