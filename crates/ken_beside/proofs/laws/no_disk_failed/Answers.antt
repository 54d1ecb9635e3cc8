use Rattle.ken_beside.proofs.Disks.{steps-unfailed}
use Rattle.ken_beside.proofs.laws.no_disk_failed.Goals as goal

pub returns : goal.returns
returns g c = steps-unfailed g.D.Disk g.N.Net g.O.Oracle
