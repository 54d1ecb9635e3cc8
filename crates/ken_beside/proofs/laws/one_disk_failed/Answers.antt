use Rattle.ken_beside.proofs.Disks.{fault-fell}
use Rattle.ken_beside.proofs.laws.one_disk_failed.Goals as goal

pub returns : goal.returns
returns g c = fault-fell g.D.Disk
