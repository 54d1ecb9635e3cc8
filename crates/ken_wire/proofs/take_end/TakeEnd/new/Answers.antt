use Rattle.ken_wire.proofs.Steps.{begins}
use Rattle.ken_wire.proofs.take_end.TakeEnd.new.Goals as goal

pub ruled-requires-clause-rule : goal.ruled-requires-clause-rule
ruled-requires-clause-rule c = begins
