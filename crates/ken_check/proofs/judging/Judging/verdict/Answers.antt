use Rattle.ken_check.proofs.Pieces.{judged_right, judged_wrong}
use Rattle.ken_check.proofs.judging.Judging.verdict.Goals as goal

pub returns-then-is_whole : goal.returns-then-is_whole
returns-then-is_whole gen c = λ g most seen read few. judged_right read (c.is_whole.ensures.0 c.if-is_whole.true)

pub returns-else-is_whole : goal.returns-else-is_whole
returns-else-is_whole gen c = λ g most seen read few. judged_wrong read few (λ whole. (let yes = c.is_whole.ensures.1 whole in let no = c.if-is_whole.false in absurd cc))
