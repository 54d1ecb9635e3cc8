use Rattle.ken_whole.proofs.TurnsWhole.{turn_keeps_whole}
use Rattle.ken_whole.proofs.laws.a_turn_keeps_the_whole.Goals as goal

pub returns : goal.returns
returns g c = turn_keeps_whole g.D.Disk.told g.D.Disk.size g.D.Disk.faults g.D.Disk.fate g.O.Oracle.telling.clocks g.O.Oracle.telling.words g.N.Net.given_between g.N.Net.put_between
