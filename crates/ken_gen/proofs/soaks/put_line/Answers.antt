use Rattle.std.proofs.Common.{◌++◌, map, decimal, ap, ◌∙◌}
use Rattle.ken_gen.proofs.Lines.{following, joined}
use Rattle.ken_gen.proofs.soaks.put_line.Goals as goal

pub loop-number-init : goal.loop-number-init
loop-number-init c =
    ap (λ bytes. bytes ++ following (map decimal c.args.numbers.now)) c.in_ok-extend_from_slice.ensures.items
    ∙ joined c.args.out.now.items c.args.name.now (map decimal c.args.numbers.now)
