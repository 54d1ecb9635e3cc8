use Rattle.std.proofs.Common.{List, refl, arith, length-append}
use Rattle.ken_net.specs.Standings.{Standing}
use Rattle.ken_net.proofs.Made.{one_fresh, one_acts}
use Rattle.ken_net.proofs.links.Links.new.Goals as goal

pub loop-to-preserved : goal.loop-to-preserved
loop-to-preserved c =
    let links : List Standing = c.loop-to.links.items in
    let new : Standing = c.in_ok-new.field-0 in
    record {
      long = grind (arith, length-append);
      acts = rw c.in_ok-push.ensures.items (one_acts c.args.acts.now c.args.from links new c.loop-to.to c.loop-to.invariant.long c.in_ok-new.ensures.acts c.loop-to.invariant.acts);
      fresh = rw c.in_ok-push.ensures.items (one_fresh links new (c.in_ok-new.ensures.puts, c.in_ok-new.ensures.kept) c.loop-to.invariant.fresh);
    }

pub invariant_of-result : goal.invariant_of-result
invariant_of-result c = λ v. rw (c.loop-to.invariant.fresh v).1 refl
