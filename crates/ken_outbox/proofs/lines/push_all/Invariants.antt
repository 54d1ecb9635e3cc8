use Rattle.std.proofs.Common.{◌≡◌, length}
use Rattle.std.specs.Prelude.{map}
use Rattle.std.specs.VecDeque.{deque_len}
use Rattle.ken_outbox.specs.Waiting.{with_sends, AreFor}
use Rattle.ken_outbox.specs.Lines.{shown, HaveRoom}
use Rattle.ken_outbox.proofs.lines.push_all.Given as goal

abbrev pub invariant-loop-message : goal.invariant-loop-message
invariant-loop-message l = record {
  known : AreFor (length l.lines) l.sends.items;
  room : HaveRoom (deque_len l.sends) l.sends.items l.lines;
  whole : with_sends 0 (map shown l.lines) l.sends.items ≡ with_sends 0 (map shown l.fn.lines) l.fn.sends.items;
}

abbrev pub decreases-loop-message : goal.decreases-loop-message
decreases-loop-message l = length l.sends.items
