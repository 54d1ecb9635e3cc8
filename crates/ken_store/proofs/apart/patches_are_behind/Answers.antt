use Rattle.ken_store.proofs.ApartLaws.{patches_are_behind}
use Rattle.ken_store.proofs.apart.patches_are_behind.Goals as goal

pub returns : goal.returns
returns g c = patches_are_behind g.D.Disk.told g.D.Disk.size
