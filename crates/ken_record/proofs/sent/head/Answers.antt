use Rattle.std.proofs.Common.{◌≡◌, ◌++◌, arith}
use Rattle.ken_record.specs.Spelling.{number}
use Rattle.ken_record.proofs.Heads.{one_byte}
use Rattle.ken_record.proofs.sent.head.Goals as goal

pub returns : goal.returns
unfolding number
returns c =
    rw (c.to_be_bytes.ensures, c.to_be_bytes-2.ensures)
    (one_byte c.args.to (number 8 c.args.place ++ number 2 c.args.len) (omega arith))
