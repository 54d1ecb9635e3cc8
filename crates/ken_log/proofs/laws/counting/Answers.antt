use Rattle.ken_log.proofs.Restarts.{settled_mounts, mounted_anew, mounted_again}
use Rattle.ken_log.proofs.laws.counting.Goals as goal

pub returns-clause-settled : goal.returns-clause-settled
returns-clause-settled g c = settled_mounts g.D.Disk.told g.D.Disk.size

pub returns-clause-anew : goal.returns-clause-anew
returns-clause-anew g c = mounted_anew

pub returns-clause-again : goal.returns-clause-again
returns-clause-again g c = mounted_again
