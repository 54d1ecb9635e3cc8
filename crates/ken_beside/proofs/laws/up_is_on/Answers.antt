use Rattle.ken_beside.proofs.On.{up_is_on}
use Rattle.ken_beside.proofs.laws.up_is_on.Goals as goal

pub returns : goal.returns
returns g c = up_is_on g.D.Disk.told g.D.Disk.size
