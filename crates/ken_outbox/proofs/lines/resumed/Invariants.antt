use Rattle.std.proofs.Common.{◌≡◌, take}
use Rattle.std.specs.Prelude.{map}
use Rattle.ken_outbox.specs.Lines.{shown, bare_lines}
use Rattle.ken_outbox.proofs.lines.resumed.Given as goal

abbrev pub invariant-loop-node : goal.invariant-loop-node
invariant-loop-node l = map shown l.lines.items ≡ bare_lines 0 (take l.node l.sent) l.waiting
