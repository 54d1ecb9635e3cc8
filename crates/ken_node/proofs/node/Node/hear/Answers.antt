use Rattle.ken_node.proofs.RestartSynced.{disks-synced}
use Rattle.ken_node.proofs.node.Node.hear.Goals as goal

pub returns-clause-synced : goal.returns-clause-synced
returns-clause-synced g c = λ game v before.
    disks-synced g.D.Disk.told g.D.Disk.faults game v c.args.self.now.stage c.in-Created.turns c.hear.new.turns c.in-Created.patches c.hear.new.patches c.in-Created.sends c.hear.new.sends c.in-Created.is c.hear.ensures.disks before
