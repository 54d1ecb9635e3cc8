use Rattle.std.proofs.Common.{◌≡◌, ◌++◌, map, drop, decimal}
use Rattle.ken_model.specs.Report.{draws_word}
use Rattle.ken_report.proofs.Joined.{following}
use Rattle.ken_report.proofs.words.put_draws.Given as goal

abbrev pub invariant-loop-draw : goal.invariant-loop-draw
invariant-loop-draw l = l.out.items ++ following 44 (map decimal (drop l.draw-index l.rest)) ≡ l.fn.out.items ++ draws_word l.draws
