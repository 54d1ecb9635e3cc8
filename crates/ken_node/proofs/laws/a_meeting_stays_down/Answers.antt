use Rattle.ken_node.proofs.MeetingDown.{meeting_stays_down}
use Rattle.ken_node.proofs.laws.a_meeting_stays_down.Goals as goal

pub returns : goal.returns
returns g c = meeting_stays_down g.D.Disk.told g.D.Disk.size
