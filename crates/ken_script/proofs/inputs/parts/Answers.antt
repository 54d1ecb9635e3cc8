use Rattle.std.proofs.Common.{rules}
use Rattle.ken_script.proofs.Lists.{both-other}
use Rattle.ken_script.proofs.inputs.parts.Goals as goal

pub returns-in_default : goal.returns-in_default
returns-in_default c = search (rules, both-other)
