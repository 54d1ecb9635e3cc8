use Rattle.std.proofs.Common.{◌≡◌, ◌++◌, drop, codes, decimal}
use Rattle.ken_dump.specs.StateText.{count_lines}
use Rattle.ken_dump.proofs.text.put_sent.Given as goal

abbrev pub invariant-loop-place : goal.invariant-loop-place
invariant-loop-place l =
    l.out.items ++ count_lines (codes "sent") decimal l.place (drop l.place l.counts) ≡ l.fn.out.items ++ count_lines (codes "sent") decimal 0 l.counts
