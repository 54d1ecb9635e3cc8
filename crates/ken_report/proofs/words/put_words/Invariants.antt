use Rattle.std.proofs.Common.{◌≡◌, ◌++◌, map, drop}
use Rattle.std.specs.List.{join_with_byte}
use Rattle.ken_report.specs.Words.{spelled}
use Rattle.ken_report.proofs.Joined.{following}
use Rattle.ken_report.proofs.words.put_words.Given as goal

abbrev pub invariant-loop-word : goal.invariant-loop-word
invariant-loop-word l = l.out.items ++ following 32 (map spelled (drop l.word-index l.rest)) ≡ l.fn.out.items ++ join_with_byte 32 (map spelled l.words)
