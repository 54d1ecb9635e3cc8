use Rattle.std.proofs.Common.{rules}
use Rattle.ken_script.proofs.Lists.{four-other}
use Rattle.ken_script.proofs.mishaps.DiskCutMishap.read.Goals as goal

pub returns-in_default : goal.returns-in_default
returns-in_default c = search (rules, four-other)

pub returns-in_default-2 : goal.returns-in_default-2
returns-in_default-2 c = search (rules, four-other)
