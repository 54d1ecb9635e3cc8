use Rattle.crossbeam_queue.specs.Passes.{view}
use Rattle.ken_wire.proofs.Steps.{takes}
use Rattle.ken_wire.proofs.take_end.TakeEnd.take.Goals as goal

pub pop_as-requires-clause-rule : goal.pop_as-requires-clause-rule
pop_as-requires-clause-rule g c = (takes c.args.self.now.pass.id (view c.args.self.now.pass) c.args.self.now.takes, λ _ _ _ _. tt)
