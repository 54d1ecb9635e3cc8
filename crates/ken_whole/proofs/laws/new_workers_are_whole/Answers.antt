use Rattle.ken_whole.proofs.NewWhole.{new_are_whole}
use Rattle.ken_whole.proofs.laws.new_workers_are_whole.Goals as goal

pub returns : goal.returns
returns g c = new_are_whole g.D.Disk.told g.D.Disk.size
