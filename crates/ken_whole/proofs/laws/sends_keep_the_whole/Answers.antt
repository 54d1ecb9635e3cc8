use Rattle.ken_whole.proofs.SendsWhole.{sends_keep_whole}
use Rattle.ken_whole.proofs.laws.sends_keep_the_whole.Goals as goal

pub returns : goal.returns
returns g c = sends_keep_whole g.D.Disk.told g.D.Disk.size g.N.Net.put_between
