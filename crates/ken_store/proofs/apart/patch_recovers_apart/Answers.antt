use Rattle.ken_store.proofs.ApartRecovers.{patch_recovers_apart}
use Rattle.ken_store.proofs.apart.patch_recovers_apart.Goals as goal

pub returns : goal.returns
returns g c = patch_recovers_apart g.D.Disk.told g.D.Disk.size
