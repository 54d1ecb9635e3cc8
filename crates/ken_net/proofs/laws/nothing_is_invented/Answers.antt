use Rattle.ken_net.proofs.Honest.{passes_honestly, keeps_honestly}
use Rattle.ken_net.proofs.Origins.{comes_from, was_there}
use Rattle.ken_net.proofs.laws.nothing_is_invented.Goals as goal

pub returns-clause-passed : goal.returns-clause-passed
returns-clause-passed c = comes_from

pub returns-clause-kept : goal.returns-clause-kept
returns-clause-kept c = was_there

pub returns-clause-may : goal.returns-clause-may
returns-clause-may c = passes_honestly

pub returns-clause-own : goal.returns-clause-own
returns-clause-own c = keeps_honestly
