use Rattle.std.proofs.Common.{◌∙◌}
use Rattle.ken_node.proofs.UpNumbers.{up_numbers}
use Rattle.ken_node.proofs.node.Node.consumed.Goals as goal

pub returns : goal.returns
returns g c = λ game v n up sender. c.consumed_from.ensures ∙ (up_numbers g.D.Disk.told g.D.Disk.size game v n c.args.self.now.stage c.in-Created.turns c.in-Created.field-1 c.in-Created.field-2 c.in-Created.is up).consumed c.args.from sender
