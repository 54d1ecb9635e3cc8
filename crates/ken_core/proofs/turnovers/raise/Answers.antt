use Rattle.std.proofs.Common.{◌≡◌, length, sym, ◌∙◌, arith}
use Rattle.std.proofs.lemmas.List.{ext_get_or}
use Rattle.ken_core.specs.Steps.{raised}
use Rattle.ken_core.proofs.Turning.{raised_at, raised_length}
use Rattle.ken_core.proofs.turnovers.raise.Goals as goal

pub returns : goal.returns
returns c =
    let long : length c.loop-place.numbers ≡ length (raised c.args.numbers.now c.args.told.now) = c.loop-place.auto.numbers ∙ sym (raised_length c.args.numbers.now c.args.told.now) in
    ext_get_or 0 c.loop-place.numbers (raised c.args.numbers.now c.args.told.now) long
    (λ i within. c.loop-place.invariant.raised i (omega (arith, within, c.loop-place.auto.numbers, c.loop-place-test.false, c.requires)) ∙ sym (raised_at c.args.numbers.now c.args.told.now c.requires i))
