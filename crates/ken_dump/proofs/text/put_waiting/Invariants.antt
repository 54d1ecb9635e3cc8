use Rattle.std.proofs.Common.{◌≡◌, ◌++◌, drop}
use Rattle.ken_dump.specs.StateText.{waiting_lines}
use Rattle.ken_dump.proofs.text.put_waiting.Given as goal

abbrev pub invariant-loop-message : goal.invariant-loop-message
invariant-loop-message l = l.out.items ++ waiting_lines (drop l.message-index l.messages) ≡ l.fn.out.items ++ waiting_lines l.messages
