use Rattle.ken_drive.proofs.Recovering.{up-recovers}
use Rattle.ken_drive.proofs.laws.a_node_is_recovered.Goals as goal

pub returns : goal.returns
returns g c = λ h v nodes emissions lines stage disks accord played up has. up-recovers g.D.Disk.told g.D.Disk.size h v nodes emissions lines stage accord played up c.apart_recovers.ensures disks has
