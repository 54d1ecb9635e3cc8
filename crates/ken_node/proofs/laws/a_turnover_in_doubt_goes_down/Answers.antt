use Rattle.ken_node.proofs.TurnoverDown.{turnover_goes_down}
use Rattle.ken_node.proofs.laws.a_turnover_in_doubt_goes_down.Goals as goal

pub returns : goal.returns
returns g c = turnover_goes_down g.D.Disk.told g.D.Disk.size g.D.Disk.faults g.D.Disk.fate g.O.Oracle.telling.clocks g.O.Oracle.telling.words g.N.Net.given_between g.N.Net.put_between
