use Rattle.ken_node.proofs.ShipSteps.{send-steps}
use Rattle.ken_node.proofs.Up.{are-up}
use Rattle.ken_node.proofs.together.send.Goals as goal

pub returns-clause-steps : goal.returns-clause-steps
returns-clause-steps g c = λ game v n was.
    let up = are-up g.D.Disk.told g.D.Disk.size game v n c.args.turns.now c.args.patches.now c.args.sends.now was in
    let sent = c.send_due-answer.ensures in
    let met = c.in_ok-meet.ensures in
    send-steps g.D.Disk.told g.D.Disk.size game v n c.args.turns.now c.meet.new.turns c.args.patches.now c.meet.new.patches c.args.sends.now c.send_due-answer.new.self c.meet.new.sends
    up met.met met.joined sent.worker met.sends met.ok g.N.Net.put_between c.args.net.now c.send_due-answer.new.net c.send_due-answer.result _ _ sent.told sent.handed sent.put
