use Rattle.std.proofs.Common.{◌≡◌, ℕ, ◌<◌, slice_index_or}
use Rattle.std.specs.Prelude.{map}
use Rattle.std.specs.VecDeque.{deque_len}
use Rattle.ken_model.specs.declared.messages.Message.{Message}
use Rattle.ken_outbox.specs.declared.line.Line.{Line}
use Rattle.ken_outbox.specs.Lines.{shown, HasRoom}
use Rattle.ken_outbox.proofs.lines.reserve_for.Given as goal

abbrev pub invariant-loop-i : goal.invariant-loop-i
invariant-loop-i l = record {
  same : map shown l.lines ≡ map shown l.fn.lines;
  room : (k : ℕ) (m : Message) (d : Line) → k < l.i → HasRoom (deque_len l.sends) (slice_index_or l.lines (slice_index_or l.sends.items k m).to d);
}
