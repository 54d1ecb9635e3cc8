use Rattle.ken_beside.proofs.Rounds.{rounds_keep_group}
use Rattle.ken_beside.proofs.laws.rounds_keep_group.Goals as goal

pub returns : goal.returns
returns c = rounds_keep_group
