use Rattle.std.proofs.Common.{◌≡◌, ◌++◌, drop}
use Rattle.ken_dump.specs.StateText.{due_lines}
use Rattle.ken_dump.proofs.text.put_due.Given as goal

abbrev pub invariant-loop-output : goal.invariant-loop-output
invariant-loop-output l = l.out.items ++ due_lines (drop l.output-index l.outs) ≡ l.fn.out.items ++ due_lines l.outs
