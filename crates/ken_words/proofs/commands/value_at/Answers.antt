use Rattle.std.proofs.Common.{arith}
use Rattle.clap.specs.Words.{found_of}
use Rattle.clap.proofs.WalkLemmas.{first_value-rows}
use Rattle.ken_words.proofs.commands.value_at.Goals as goal

pub returns-in_err-get_str-clause-number : goal.returns-in_err-get_str-clause-number
returns-in_err-get_str-clause-number c =
    let rows = first_value-rows (found_of c.args.given.now) c.args.id.now in
    grind (arith, rows)

pub returns-clause-number : goal.returns-clause-number
returns-clause-number c =
    let rows = first_value-rows (found_of c.args.given.now) c.args.id.now in
    grind (arith, rows)
