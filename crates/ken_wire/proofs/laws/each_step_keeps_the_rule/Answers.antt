use Rattle.ken_wire.proofs.Steps.{begins, sends, takes, forks, merges, learns}
use Rattle.ken_wire.proofs.laws.each_step_keeps_the_rule.Goals as goal

pub returns-clause-new : goal.returns-clause-new
returns-clause-new c = begins

pub returns-clause-put : goal.returns-clause-put
returns-clause-put c = sends

pub returns-clause-take : goal.returns-clause-take
returns-clause-take c = takes

pub returns-clause-seat : goal.returns-clause-seat
returns-clause-seat c = forks

pub returns-clause-join : goal.returns-clause-join
returns-clause-join c = merges

pub returns-clause-told : goal.returns-clause-told
returns-clause-told c = learns
