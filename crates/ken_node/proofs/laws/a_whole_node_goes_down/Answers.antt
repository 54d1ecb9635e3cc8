use Rattle.ken_node.proofs.GoesDown.{whole_goes_down}
use Rattle.ken_node.proofs.laws.a_whole_node_goes_down.Goals as goal

pub returns : goal.returns
returns g c = whole_goes_down g.D.Disk.told g.D.Disk.size
