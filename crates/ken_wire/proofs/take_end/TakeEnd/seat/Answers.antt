use Rattle.crossbeam_queue.specs.Passes.{view}
use Rattle.ken_wire.proofs.Steps.{forks}
use Rattle.ken_wire.proofs.take_end.TakeEnd.seat.Goals as goal

pub another-pass-requires-clause-rule : goal.another-pass-requires-clause-rule
another-pass-requires-clause-rule c = forks c.args.self.now.pass.id (view c.args.self.now.pass) c.args.self.now.takes
