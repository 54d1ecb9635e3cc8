use Rattle.ken_node.proofs.CreationDown.{creation_goes_down}
use Rattle.ken_node.proofs.laws.a_failed_creation_goes_down.Goals as goal

pub returns : goal.returns
returns g c = creation_goes_down g.D.Disk.told g.D.Disk.size g.D.Disk.faults g.D.Disk.fate
