use Rattle.ken_disk.proofs.Fates.{all_taken}
use Rattle.ken_disk.proofs.laws.falls.Goals as goal

pub returns : goal.returns
returns c = all_taken
