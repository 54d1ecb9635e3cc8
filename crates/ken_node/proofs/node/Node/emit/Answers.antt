use Rattle.ken_node.proofs.RestartSynced.{disks-synced}
use Rattle.std.proofs.Common.{◌≡◌, List, sym, subst, ◌∙◌}
use Rattle.ken_model.specs.declared.messages.Out.{Out}
use Rattle.ken_ship.specs.Outlets.{also_took}
use Rattle.ken_node.specs.declared.stage.Stage.{Stage}
use Rattle.ken_node.specs.declared.stage.Stage.TheVariants.{Created}
use Rattle.ken_node.specs.NodeCalls.{EmitStepsBy}
use Rattle.ken_node.proofs.node.Node.emit.Goals as goal

pub returns-clause-steps : goal.returns-clause-steps
returns-clause-steps g c = λ game v n up.
    subst
    (λ (x : Stage g.row.D.Denot).
    EmitStepsBy g.D.Disk.told g.D.Disk.size c.emit.result game v n (λ (taken : List Out). g.O.Outlet.took c.emit.new.out ≡ also_took taken (g.O.Outlet.took c.args.out.now)) x (Created c.emit.new.turns c.emit.new.patches c.emit.new.sends))
    (sym c.in-Created.is)
    (c.emit.ensures.steps game v n
    (record {
      limits = up.limits;
      known = up.known;
      handler = up.handler;
      patcher = up.patcher;
      sender = up.sender;
      stage_is = sym c.in-Created.is ∙ up.stage_is;
      whole = up.whole;
      empty = up.empty;
      unspent = up.unspent;
      tell = up.tell;
    }))

pub returns-clause-synced : goal.returns-clause-synced
returns-clause-synced g c = λ game v before.
    disks-synced g.D.Disk.told g.D.Disk.faults game v c.args.self.now.stage c.in-Created.turns c.emit.new.turns c.in-Created.patches c.emit.new.patches c.in-Created.sends c.emit.new.sends c.in-Created.is c.emit.ensures.disks before
