use Rattle.std.proofs.Common.{◌≡◌, List}
use Rattle.ken_model.specs.declared.messages.Out.{Out}
use Rattle.ken_ship.specs.Outlets.{also_took}
use Rattle.ken_node.proofs.ShipSteps.{emit-steps}
use Rattle.ken_node.proofs.Up.{are-up}
use Rattle.ken_node.proofs.together.emit.Goals as goal

pub returns-clause-steps : goal.returns-clause-steps
returns-clause-steps g c = λ game v n was.
    let up = are-up g.D.Disk.told g.D.Disk.size game v n c.args.turns.now c.args.patches.now c.args.sends.now was in
    let emitted = c.emit_once-answer.ensures in
    let met = c.in_ok-meet.ensures in
    emit-steps g.D.Disk.told g.D.Disk.size game v n c.args.turns.now c.meet.new.turns c.args.patches.now c.meet.new.patches c.args.sends.now c.emit_once-answer.new.self c.meet.new.sends
    up met.met met.joined emitted.worker met.sends met.ok c.emit_once-answer.result (λ (taken : List Out). g.O.Outlet.took c.emit_once-answer.new.out ≡ also_took taken (g.O.Outlet.took c.args.out.now)) emitted.sealed emitted.part emitted.took
