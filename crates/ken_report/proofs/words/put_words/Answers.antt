use Rattle.std.proofs.Common.{map, ap, ◌∙◌, ◌++◌}
use Rattle.ken_report.specs.Words.{spelled}
use Rattle.ken_report.proofs.Joined.{following, append-join_with_byte}
use Rattle.ken_report.proofs.words.put_words.Goals as goal

pub loop-word-init : goal.loop-word-init
loop-word-init c =
    rw c.in-Some.ensures.cases.0
    (ap (λ bytes. bytes ++ following 32 (map spelled c.in-Some.rest.now)) c.in_ok-put_word.ensures
    ∙ append-join_with_byte c.args.out.now.items 32 (spelled c.in-Some.first.now) (map spelled c.in-Some.rest.now))
