use Rattle.std.proofs.Common.{length, arith}
use Rattle.std.proofs.lemmas.List.{length-append}
use Rattle.ken_record.specs.Spelling.{number, fields}
use Rattle.ken_record.proofs.Sizes.{base_long, fields_short, header_long, number_long}
use Rattle.ken_record.proofs.laws.lengths.Goals as goal

pub returns-clause-header : goal.returns-clause-header
returns-clause-header c = header_long

pub returns-clause-base : goal.returns-clause-base
returns-clause-base c = base_long

pub returns-clause-record : goal.returns-clause-record
returns-clause-record c = λ v r is. omega (arith, length-append (number 4 (length (fields v r))) (fields v r), number_long 4 (length (fields v r)), fields_short v r is)
