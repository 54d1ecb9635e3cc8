use Rattle.std.proofs.Common.{◌≡◌, ◌++◌, drop, codes}
use Rattle.ken_dump.specs.StateText.{place_word, count_lines}
use Rattle.ken_dump.proofs.text.put_consumed.Given as goal

abbrev pub invariant-loop-place : goal.invariant-loop-place
invariant-loop-place l =
    l.out.items ++ count_lines (codes "from") place_word l.place (drop l.place l.counts) ≡ l.fn.out.items ++ count_lines (codes "from") place_word 0 l.counts
