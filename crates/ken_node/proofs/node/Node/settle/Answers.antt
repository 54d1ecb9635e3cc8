use Rattle.ken_node.proofs.RestartSynced.{side-synced}
use Rattle.std.proofs.Common.{subst, sym}
use Rattle.std.specs.Prelude.{OnOk}
use Rattle.ken_node.specs.Stages.{image_told}
use Rattle.ken_node.specs.Synced.{HasMadeSync}
use Rattle.ken_node.proofs.node.Node.settle.Goals as goal

pub returns-clause-synced : goal.returns-clause-synced
returns-clause-synced g c = λ game v before.
    side-synced g.D.Disk.told g.D.Disk.faults game v c.args.self.now.stage c.in-Created.turns c.settle.new.turns c.in-Created.patches c.settle.new.patches c.in-Created.sends c.settle.new.sends c.in-Created.is c.settle.ensures.side before

pub returns-clause-image : goal.returns-clause-image
returns-clause-image g c = subst (λ stage. OnOk c.settle.result (HasMadeSync (image_told g.D.Disk.told stage) (g.D.Disk.told c.settle.new.patches.side.image.disk))) (sym c.in-Created.is) c.settle.ensures.image
