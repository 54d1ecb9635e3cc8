use Rattle.std.proofs.Common.{length, sym, ap, ◌∙◌, arith}
use Rattle.ken_num.proofs.Small.{num-digits}
use Rattle.ken_apps.proofs.tally.on_message.Goals as goal

pub send_to_others-requires-clause-short : goal.send_to_others-requires-clause-short
send_to_others-requires-clause-short g c =
    let digits = num-digits c.as_slice.result.now c.in-Some.amount (sym c.num.ensures ∙ c.in-Some.is) in
    omega (arith, digits.1, ap length c.as_slice.ensures, ap length c.as_slice-then-message.ensures)
