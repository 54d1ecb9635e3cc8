use Rattle.ken_store.proofs.Worked.{creation_works}
use Rattle.ken_store.proofs.syncs.a_creation_takes_three_syncs.Goals as goal

pub returns : goal.returns
returns g c = creation_works g.D.Disk.told g.D.Disk.faults
