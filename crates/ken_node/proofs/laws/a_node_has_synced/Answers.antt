use Rattle.ken_node.proofs.Synced.{up_has_synced}
use Rattle.ken_node.proofs.laws.a_node_has_synced.Goals as goal

pub returns : goal.returns
returns g c = up_has_synced g.D.Disk.told g.D.Disk.size g.D.Disk.faults
