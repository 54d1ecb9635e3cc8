use Rattle.std.proofs.Common.{rules, tests}
use Rattle.std.proofs.lemmas.Iterator.{cases_from_all, YieldsList-from_slice}
use Rattle.ken_work.proofs.Within.{Lies, LiesOutside, within_by_cases}
use Rattle.ken_work.proofs.patcher.are_within.Goals as goal

pub returns : goal.returns
returns c =
    within_by_cases c.args.pages c.args.frames.now c.all.result
    (cases_from_all _ _ _ (Lies c.args.pages) (LiesOutside c.args.pages) c.all.ensures.ran (YieldsList-from_slice c.args.frames.now cc) (λ x q k. search (rules, tests)) (λ x q k. search (rules, tests)))
