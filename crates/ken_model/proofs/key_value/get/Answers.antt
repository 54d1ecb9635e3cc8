use Rattle.std.proofs.Common.{length, ap, arith}
use Rattle.ken_model.proofs.Edits.{found_long}
use Rattle.ken_model.proofs.key_value.get.Goals as goal

pub text_after-text-requires : goal.text_after-text-requires
text_after-text-requires c = omega (arith, found_long c.args.key.now c.args.value.now c.in-Some.pair.now c.in-Some.ensures, ap length c.as_slice.ensures)
