use Rattle.ken_store.proofs.ApartLaws.{room_keeps_apart}
use Rattle.ken_store.proofs.apart.room_keeps_apart.Goals as goal

pub returns : goal.returns
returns g c = room_keeps_apart g.D.Disk.told g.D.Disk.size
