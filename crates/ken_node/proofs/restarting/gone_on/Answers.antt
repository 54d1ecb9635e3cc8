use Rattle.std.proofs.Common.{refl, ap, subst, sym, ◌∙◌}
use Rattle.ken_ship.specs.declared.worker.SendWorker.{SendWorker}
use Rattle.ken_ship.specs.Parts.{part_of}
use Rattle.ken_work.specs.declared.parts.Parts.{Parts}
use Rattle.ken_work.specs.News.{AreInputs}
use Rattle.ken_node.proofs.GoesOn.{goes-on}
use Rattle.ken_node.proofs.restarting.gone_on.Goals as goal

pub over-turns-requires-clause-given : goal.over-turns-requires-clause-given
over-turns-requires-clause-given g c = subst (λ (x : Parts). AreInputs x.node x.inputs.items) (sym c.resume.ensures.rest.rest) c.requires.given

pub returns-in-Ok-clause-ok : goal.returns-in-Ok-clause-ok
returns-in-Ok-clause-ok g c = λ game v ready.
    let t = c.over-turns.result.0 in
    let p = c.over-turns.result.1 in
    let s = c.over-turns.result.2 in
    record {
      handler = t;
      patcher = p;
      sender = s;
      stage_is = refl;
      goes = goes-on game v c.args.parts c.resume.new.self c.args.store c.args.state.now c.args.records.now c.resume-order.result t p s ready c.in-Ok.ensures.rest c.in-Ok.ensures.ok c.resume-order.ensures c.over-turns.ensures;
    }

pub returns-in-Ok-clause-refusals : goal.returns-in-Ok-clause-refusals
returns-in-Ok-clause-refusals g c = ap (λ (w : SendWorker). (part_of w).refusals) c.over-turns.ensures.sends ∙ c.in-Ok.ensures.refusals
