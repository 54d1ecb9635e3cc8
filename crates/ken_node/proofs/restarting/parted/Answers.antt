use Rattle.ken_node.proofs.Parted.{met-of_run, met-side, owner-met, owner-parted, parts-ready}
use Rattle.ken_node.proofs.restarting.parted.Goals as goal

pub returns-in-Ok-clause-of_node : goal.returns-in-Ok-clause-of_node
returns-in-Ok-clause-of_node g c = λ game v limits run.
    let e = c.in-Ok.ensures in
    let t = c.meet.new.turns in
    let p = c.meet.new.patches in
    let s = c.meet.new.sends in
    parts-ready game v t p s c.of.result.1 limits (met-of_run g.D.Disk.told g.D.Disk.size game v c.args.turns t c.args.patches p c.args.sends s run e.turns e.sends e.met) e.joined e.ok c.of.ensures.parts

pub returns-in-Ok-clause-owner : goal.returns-in-Ok-clause-owner
returns-in-Ok-clause-owner g c =
    let e = c.in-Ok.ensures in
    owner-parted c.args.turns c.meet.new.turns c.meet.new.patches c.meet.new.sends c.of.result.1 e.turns (met-side g.D.Disk.told g.D.Disk.size c.args.turns c.meet.new.turns c.args.patches c.meet.new.patches c.args.sends c.meet.new.sends e.met) c.of.ensures.parts

pub returns-in-Err-clause-owner : goal.returns-in-Err-clause-owner
returns-in-Err-clause-owner g c =
    let e = c.meet.ensures in
    owner-met c.args.turns c.meet.new.turns e.turns (met-side g.D.Disk.told g.D.Disk.size c.args.turns c.meet.new.turns c.args.patches c.meet.new.patches c.args.sends c.meet.new.sends e.met)
