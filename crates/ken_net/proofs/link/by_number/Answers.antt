use Rattle.std.proofs.Common.{arith}
use Rattle.ken_net.proofs.Numbered.{one_before}
use Rattle.ken_net.proofs.link.by_number.Goals as goal

pub loop-place-preserved-then-act-to : goal.loop-place-preserved-then-act-to
loop-place-preserved-then-act-to c =
    λ n. one_before c.args.acts.now c.loop-place.place c.args.from c.args.to n _ _ (omega arith) (omega arith) c.if-act-from.true c.if-act-to.true (c.loop-place.invariant n) (c.in_ok-insert.ensures.updates.0 n)
