use Rattle.std.proofs.Common.{◌≡◌}
use Rattle.std.specs.Prelude.{map, replicate}
use Rattle.ken_outbox.specs.Waiting.{no_line}
use Rattle.ken_outbox.specs.Lines.{shown}
use Rattle.ken_outbox.proofs.lines.new.Given as goal

abbrev pub invariant-loop-node : goal.invariant-loop-node
invariant-loop-node l = map shown l.lines.items ≡ replicate l._node no_line
