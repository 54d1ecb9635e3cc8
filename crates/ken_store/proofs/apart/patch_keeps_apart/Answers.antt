use Rattle.ken_store.proofs.ApartLaws.{patch_keeps_apart}
use Rattle.ken_store.proofs.apart.patch_keeps_apart.Goals as goal

pub returns : goal.returns
returns g c = patch_keeps_apart g.D.Disk.told g.D.Disk.size
