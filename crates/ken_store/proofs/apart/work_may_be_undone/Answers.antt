use Rattle.ken_store.proofs.Undone.{work_may_be_undone}
use Rattle.ken_store.proofs.apart.work_may_be_undone.Goals as goal

pub returns : goal.returns
returns g c = work_may_be_undone g.D.Disk.told g.D.Disk.size
