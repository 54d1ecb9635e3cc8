use Rattle.std.proofs.Common.{◌≡◌, ◌++◌, refl}
use Rattle.ken_record.specs.Spelling.{number}
use Rattle.ken_record.proofs.out.head.Goals as goal

pub returns : goal.returns
unfolding number
returns c = rw (c.to_be_bytes.ensures, c.to_be_bytes-2.ensures) refl
