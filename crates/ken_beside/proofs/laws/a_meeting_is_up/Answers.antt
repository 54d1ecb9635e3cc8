use Rattle.ken_beside.proofs.On.{meeting_is_up}
use Rattle.ken_beside.proofs.laws.a_meeting_is_up.Goals as goal

pub returns : goal.returns
returns g c = meeting_is_up g.D.Disk.told g.D.Disk.size
