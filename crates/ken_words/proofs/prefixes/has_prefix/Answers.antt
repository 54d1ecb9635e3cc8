use Rattle.std.proofs.Common.{codes, arith}
use Rattle.clap.specs.Words.{found_of}
use Rattle.clap.proofs.WalkLemmas.{first_value-rows}
use Rattle.ken_words.proofs.prefixes.has_prefix.Goals as goal

pub returns-in-Some : goal.returns-in-Some
returns-in-Some c =
    let rows = first_value-rows (found_of c.args.given.now) (codes "PREFIX") in
    grind (arith, rows)

pub returns-in-None : goal.returns-in-None
returns-in-None c =
    let rows = first_value-rows (found_of c.args.given.now) (codes "PREFIX") in
    grind (arith, rows)
