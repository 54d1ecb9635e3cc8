use Rattle.ken_store.proofs.Undone.{work_stands_undone}
use Rattle.ken_store.proofs.apart.work_stands_undone.Goals as goal

pub returns : goal.returns
returns g c = work_stands_undone g.D.Disk.told g.D.Disk.size
