use Rattle.ken_whole.proofs.EmissionsWhole.{emission_keeps_whole, same_part_keeps_whole}
use Rattle.ken_whole.proofs.laws.an_emission_keeps_the_whole.Goals as goal

pub returns-clause-emitted : goal.returns-clause-emitted
returns-clause-emitted g c = emission_keeps_whole g.D.Disk.told g.D.Disk.size

pub returns-clause-same : goal.returns-clause-same
returns-clause-same g c = same_part_keeps_whole g.D.Disk.told g.D.Disk.size
