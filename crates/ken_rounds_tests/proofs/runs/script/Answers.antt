use Rattle.ken_drive.proofs.Acts.{script-modest}
use Rattle.ken_rounds_tests.proofs.runs.script.Goals as goal

pub returns-in-Ok-clause-limits : goal.returns-in-Ok-clause-limits
returns-in-Ok-clause-limits c = c.in-Ok.ensures.keeps.limits

pub returns-in-Ok-clause-modest : goal.returns-in-Ok-clause-modest
returns-in-Ok-clause-modest c = script-modest c.in-Ok.script c.in-Ok.ensures.keeps

pub returns-in-Ok-clause-serves : goal.returns-in-Ok-clause-serves
returns-in-Ok-clause-serves c = c.kinds_serve.ensures c.in-Ok.script
