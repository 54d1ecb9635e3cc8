use Rattle.ken_node.specs.Synced.{IsSynced}
use Rattle.std.proofs.Common.{◌∙◌, sym, subst}
use Rattle.ken_node.specs.Created.{IsCreation}
use Rattle.ken_node.specs.Stages.{IsUncreated}
use Rattle.ken_node.proofs.node.Node.create.Goals as goal

pub invariant_of-self : goal.invariant_of-self
invariant_of-self g c = record { here = λ is. c.created-stage.ensures.here (sym c.replace-2.ensures.after ∙ is) }

pub returns-clause-creation : goal.returns-clause-creation
returns-clause-creation g c = λ game v disks u.
    subst (IsCreation g.D.Disk.told g.D.Disk.size g.D.Disk.faults g.D.Disk.fate game v c.created-stage.result.1 disks) (sym c.replace-2.ensures.after)
    (c.created-stage.ensures.creation game v disks (subst (IsUncreated game v disks) (sym c.replace.ensures.value) u))

pub returns-clause-synced : goal.returns-clause-synced
returns-clause-synced g c = λ game v disks u tell.
    subst (IsSynced g.D.Disk.told g.D.Disk.faults game v) (sym c.replace-2.ensures.after)
    (c.created-stage.ensures.synced game v disks (subst (IsUncreated game v disks) (sym c.replace.ensures.value) u) tell)
