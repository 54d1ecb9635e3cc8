use Rattle.ken_disk.proofs.Since.{now_too, first_too, parted, on_and_on}
use Rattle.ken_disk.proofs.laws.moments.Goals as goal

pub returns-clause-now : goal.returns-clause-now
returns-clause-now c = now_too

pub returns-clause-first : goal.returns-clause-first
returns-clause-first c = first_too

pub returns-clause-parted : goal.returns-clause-parted
returns-clause-parted c = parted

pub returns-clause-joined : goal.returns-clause-joined
returns-clause-joined c = on_and_on
