-- What a line of the code shows.
use Rattle.std.specs.Prelude.{ℕ, ◌+◌, ◌-◌, ◌<◌, ◌≤◌, List, [], ◌∷◌, length, slice_index_or}
use Rattle.std.specs.VecDeque.{deque_len, deque_capacity}
use Rattle.ken_model.specs.declared.messages.Message.{Message}
use Rattle.ken_outbox.specs.declared.line.Line.{Line}
use Rattle.ken_outbox.specs.Waiting.{Unacked, sent_to}

abbrev pub shown : Line → Unacked
shown l = record { acked = l.acked; messages = l.messages.items }

-- it has room for so many more messages
abbrev pub HasRoom : ℕ → Line → Type 0
HasRoom more l = deque_len l.messages + more ≤ deque_capacity l.messages

-- each line that one of these messages goes to has room for so many more
abbrev pub HaveRoom : ℕ → List Message → List Line → Type 0
HaveRoom more sends lines = (k : ℕ) (m : Message) (d : Line) → k < length sends → HasRoom more (slice_index_or lines (slice_index_or sends k m).to d)

-- resumed lines before their messages are put on them
unfoldable pub bare_lines : ℕ → List ℕ → List Message → List Unacked
bare_lines v [] waiting = []
bare_lines v (n ∷ ns) waiting = record { acked = n - length (sent_to v waiting); messages = [] } ∷ bare_lines (v + 1) ns waiting
