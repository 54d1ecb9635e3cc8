use Rattle.ken_whole.proofs.AcksWhole.{acks_keep_whole}
use Rattle.ken_whole.proofs.laws.acks_keep_the_whole.Goals as goal

pub returns : goal.returns
returns g c = acks_keep_whole g.D.Disk.told g.D.Disk.size g.N.Net.given_between
