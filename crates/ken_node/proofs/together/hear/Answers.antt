use Rattle.std.proofs.Common.{Result, Ok, Err, OnOk}
use Rattle.ken_node.proofs.ShipSteps.{hear-steps}
use Rattle.ken_node.proofs.Up.{are-up}
use Rattle.ken_node.proofs.together.hear.Goals as goal

both-ok : {T E : Type 0} {A B P : Type 0} (r : Result T E) → OnOk r A → OnOk r B → (A → B → P) → OnOk r P
both-ok (Ok x) a b by = by a b
both-ok (Err e) a b by = tt

pub returns-clause-steps : goal.returns-clause-steps
returns-clause-steps g c = λ game v n was.
    let up = are-up g.D.Disk.told g.D.Disk.size game v n c.args.turns.now c.args.patches.now c.args.sends.now was in
    let taken = c.take_acks-answer.ensures in
    let met = c.in_ok-meet.ensures in
    both-ok c.take_acks-answer.result taken.heard taken.told
    (λ heard told.
    hear-steps g.D.Disk.told g.D.Disk.size game v n c.args.turns.now c.meet.new.turns c.args.patches.now c.meet.new.patches c.args.sends.now c.take_acks-answer.new.self c.meet.new.sends
    up met.met met.joined taken.worker met.sends met.ok g.N.Net.given_between c.args.net.now c.take_acks-answer.new.net _ _ taken.sealed heard told)
