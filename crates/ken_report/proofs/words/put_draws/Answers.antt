use Rattle.std.proofs.Common.{map, decimal}
use Rattle.ken_report.proofs.Joined.{append-join_with_byte}
use Rattle.ken_report.proofs.words.put_draws.Goals as goal

pub loop-draw-init : goal.loop-draw-init
loop-draw-init c =
    rw c.in-Some.ensures.cases.0 (rw c.in_ok-put_decimal.ensures.ok (append-join_with_byte c.args.out.now.items 44 (decimal c.in-Some.first.now) (map decimal c.in-Some.rest.now)))
