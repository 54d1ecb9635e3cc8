use Rattle.ken_node.proofs.RestartSynced.{side-synced}
use Rattle.std.proofs.Common.{subst, sym}
use Rattle.ken_node.specs.Stages.{image_told}
use Rattle.ken_node.specs.Synced.{KeepsStory}
use Rattle.ken_node.proofs.node.Node.patch.Goals as goal

pub returns-clause-synced : goal.returns-clause-synced
returns-clause-synced g c = λ game v before.
    side-synced g.D.Disk.told g.D.Disk.faults game v c.args.self.now.stage c.in-Created.turns c.patch.new.turns c.in-Created.patches c.patch.new.patches c.in-Created.sends c.patch.new.sends c.in-Created.is c.patch.ensures.side before

pub returns-clause-image : goal.returns-clause-image
returns-clause-image g c = subst (λ stage. KeepsStory (image_told g.D.Disk.told stage) (g.D.Disk.told c.patch.new.patches.side.image.disk)) (sym c.in-Created.is) c.patch.ensures.image
