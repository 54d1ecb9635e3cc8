use Rattle.ken_store.proofs.ApartLaws.{hand_keeps_apart}
use Rattle.ken_store.proofs.apart.hand_keeps_apart.Goals as goal

pub returns : goal.returns
returns g c = hand_keeps_apart g.D.Disk.told g.D.Disk.size
