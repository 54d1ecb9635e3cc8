use Rattle.ken_store.proofs.ApartLaws.{turn_keeps_apart}
use Rattle.ken_store.proofs.apart.turn_keeps_apart.Goals as goal

pub returns : goal.returns
returns g c = turn_keeps_apart g.D.Disk.told g.D.Disk.size
