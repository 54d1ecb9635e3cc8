use Rattle.std.proofs.Common.{ap, length, ◌∙◌}
use Rattle.ken_node.proofs.UpNumbers.{up_whole}
use Rattle.ken_node.proofs.node.Node.inputs.Goals as goal

pub returns : goal.returns
returns g c = λ game v n up. c.len.ensures ∙ c.in-Created.turns.inputs.ok.0 ∙ ap length (up_whole g.D.Disk.told g.D.Disk.size game v n c.args.self.now.stage c.in-Created.turns c.in-Created.field-1 c.in-Created.field-2 c.in-Created.is up).workers.of_run.inputs
