use Rattle.ken_whole.proofs.MeetingWhole.{meeting_keeps_whole}
use Rattle.ken_whole.proofs.laws.a_meeting_keeps_the_whole.Goals as goal

pub returns : goal.returns
returns g c = meeting_keeps_whole g.D.Disk.told g.D.Disk.size
