use Rattle.ken_store.proofs.ApartLaws.{patch_keeps_told}
use Rattle.ken_store.proofs.apart.patch_keeps_told.Goals as goal

pub returns : goal.returns
returns g c = patch_keeps_told g.D.Disk.told g.D.Disk.size
