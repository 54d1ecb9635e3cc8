use Rattle.std.proofs.Common.{◌≡◌, length, refl, arith}
use Rattle.std.proofs.lemmas.Bool.Decides.{nat_tests}
use Rattle.ken_log.proofs.Taken.{empty_is}
use Rattle.ken_record.specs.Versions.{One}
use Rattle.ken_log.proofs.mount.next_record.Goals as goal

pub returns-then-is_empty : goal.returns-then-is_empty
returns-then-is_empty c =
    let none : length c.args.bytes.now ≡ 0 = first_of (grind (arith, nat_tests, c.if-is_empty.true, c.is_empty.ensures), omega (arith, c.if-is_empty.true, c.is_empty.ensures)) in
    (refl, empty_is One c.args.bytes.now none)
