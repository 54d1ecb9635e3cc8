-- A run that is drained tells what it says.
use Rattle.ken_rounds_tests.proofs.runs.drained.Goals as goal

pub lines-requires : goal.lines-requires
lines-requires c =
    let may = c.requires in
    let has = c.in_ok-drain.ensures.drains may.game may.made may.running may.all in
    record { game = may.game; ended = record { made = may.made; running = has.0; all = may.all; ended = has.1 } }
