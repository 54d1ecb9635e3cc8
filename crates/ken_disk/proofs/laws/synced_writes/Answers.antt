use Rattle.ken_disk.proofs.Made.{went_on-made, syncs-made, syncs-after_writes, rests-after_some, rests-made_none}
use Rattle.ken_disk.proofs.laws.synced_writes.Goals as goal

pub returns-clause-on : goal.returns-clause-on
returns-clause-on c = went_on-made

pub returns-clause-never_fall : goal.returns-clause-never_fall
returns-clause-never_fall c = λ result writes old new made. (syncs-made result writes old new made).0

pub returns-clause-counted : goal.returns-clause-counted
returns-clause-counted c = syncs-after_writes

pub returns-clause-fewer : goal.returns-clause-fewer
returns-clause-fewer c = λ result writes old new made. (syncs-made result writes old new made).2

pub returns-clause-rests : goal.returns-clause-rests
returns-clause-rests c = rests-after_some

pub returns-clause-still : goal.returns-clause-still
returns-clause-still c = rests-made_none (Unit {0})
