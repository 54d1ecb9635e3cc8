use Rattle.ken_store.proofs.Standing.{recovers_to}
use Rattle.ken_store.proofs.laws.standing_stores.Goals as goal

pub returns : goal.returns
returns g c = λ store i v stands reads. recovers_to g.D.Disk.told g.D.Disk.size store i stands v reads
