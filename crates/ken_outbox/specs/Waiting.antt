-- What waits to be acknowledged or emitted.
use Rattle.std.specs.Prelude.{ℕ, ◌+◌, ◌-◌, ◌<◌, ◌==◌, nat_le, nat_lt, if◌then◌else◌, List, [], ◌∷◌, ◌++◌, length, take, replicate, Bool, false, Option, Some, None}
use Rattle.std.specs.List.{AllByRecursion, filter}
use Rattle.ken_model.specs.declared.messages.Message.{Message}
use Rattle.ken_model.specs.declared.messages.Out.{Out}
use Rattle.ken_model.specs.declared.states.State.{State}

-- the messages to a node that wait, oldest first, and the largest number that was acknowledged
pub record Unacked : Type 0 where
  pub acked : ℕ
  pub messages : List Message

-- a line for each node of the run, the outputs that wait, oldest first, and the number of the last that was emitted
pub record Waiting : Type 0 where
  pub lines : List Unacked
  pub emitted : ℕ
  pub outs : List Out

abbrev pub no_line : Unacked
no_line = record { acked = 0; messages = [] }

abbrev pub nothing : ℕ → Waiting
nothing nodes = record { lines = replicate nodes no_line; emitted = 0; outs = [] }

-- the messages to a node, in order
abbrev pub sent_to : ℕ → List Message → List Message
sent_to v messages = filter (λ (m : Message). m.to == v) messages

-- the lines of the nodes from v on, each with the messages to its node behind its own
unfoldable pub with_sends : ℕ → List Unacked → List Message → List Unacked
with_sends v [] sends = []
with_sends v (l ∷ ls) sends = record l { messages = l.messages ++ sent_to v sends } ∷ with_sends (v + 1) ls sends

-- the lines of the nodes from v on, by how many messages were ever sent to each and what still waits: the others were
-- acknowledged
unfoldable pub resumed_lines : ℕ → List ℕ → List Message → List Unacked
resumed_lines v [] waiting = []
resumed_lines v (n ∷ ns) waiting = record { acked = n - length (sent_to v waiting); messages = sent_to v waiting } ∷ resumed_lines (v + 1) ns waiting

-- what a state says that waits
abbrev pub resumed : ℕ → State → Waiting
resumed nodes s = record { lines = resumed_lines 0 (take nodes s.sent) s.messages; emitted = s.outputs - length s.outs; outs = s.outs }

-- the messages without those at the front that have at most this number
unfoldable pub past : ℕ → List Message → List Message
past through [] = []
past through (m ∷ ms) = if nat_le m.number through then past through ms else m ∷ ms

-- a larger number than before is acknowledged; any other changes nothing
abbrev pub acked_by : ℕ → Unacked → Unacked
acked_by through l = if nat_lt l.acked through then record { acked = through; messages = past through l.messages } else l

-- whether there is a first message, with at most this number
abbrev pub is_first_within : ℕ → List Message → Bool
is_first_within through [] = false
is_first_within through (m ∷ ms) = nat_le m.number through

-- the number of the output that comes next
abbrev pub next_number : List Out → Option ℕ
next_number [] = None
next_number (o ∷ os) = Some o.number

-- each goes to a node of the run
abbrev pub AreFor : ℕ → List Message → Type 0
AreFor nodes messages = AllByRecursion (λ (m : Message). m.to < nodes) messages
