use Rattle.std.proofs.Common.{length, arith, length-append}
use Rattle.ken_record.specs.Versions.{One}
use Rattle.ken_record.specs.Spelling.{number, fields}
use Rattle.ken_record.proofs.Sizes.{number_long, fields_fit}
use Rattle.ken_record.proofs.record.Record.spelled_len.Goals as goal

pub overflow_add-result : goal.overflow_add-result
overflow_add-result c = omega (arith, c.fields_len.ensures, fields_fit c.args.self.now c.requires)

pub returns : goal.returns
returns c =
    let fs = fields One c.args.self.now in
    omega (arith, c.fields_len.ensures, length-append (number 4 (length fs)) fs, number_long 4 (length fs))
