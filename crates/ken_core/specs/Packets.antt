-- What nodes put into the network, and what they emit.
use Rattle.std.specs.Prelude.{ℕ, ◌+◌, List, [], ◌∷◌, ◌++◌, slice_get, slice_index, Option, Some, None}
use Rattle.ken_model.specs.declared.messages.Message.{Message}
use Rattle.ken_model.specs.declared.messages.Out.{Out}
use Rattle.ken_core.specs.declared.events.Event.{Event}
use Rattle.ken_core.specs.declared.events.Event.TheVariants.{Send, Ack, Emit}
use Rattle.ken_core.specs.Turns.{consumed_from, mails_to, outs_of}
use Rattle.ken_core.specs.Nodes.{Node}

-- an acknowledgement by `from`: it has consumed all messages of `to` through this number
pub record Receipt : Type 0 where
  pub from : ℕ
  pub to : ℕ
  pub through : ℕ

pub data Packet : Type 0 where
  Mail : Message → Packet
  Answer : Receipt → Packet

-- a packet that was put, with what its sender hands in: all that it has sealed for the receiver, and the number that it has
-- consumed from the receiver
pub record Put : Type 0 where
  pub packet : Packet
  pub sealed : List Message
  pub consumed : ℕ

-- what an event, or several, put and emitted, in order
pub record Outgoing : Type 0 where
  pub puts : List Put
  pub outs : List Out

abbrev pub nothing : Outgoing
nothing = record { puts = []; outs = [] }

abbrev pub one_after_other : Outgoing → Outgoing → Outgoing
one_after_other a b = record { puts = a.puts ++ b.puts; outs = a.outs ++ b.outs }

-- the i-th message of v to w past the acknowledged number, counted from 0
abbrev pub unacked : ℕ → ℕ → ℕ → Node → Option Message
unacked v w i n = slice_get (mails_to v w n.turning.turns) (slice_index n.sending.acked w + i)

-- the output that is due
abbrev pub due : Node → Option Out
due n = slice_get (outs_of n.turning.turns) n.sending.emitted

-- what v has consumed from u, as an acknowledgement
abbrev pub receipt_of : ℕ → ℕ → Node → Receipt
receipt_of v u n = record { from = v; to = u; through = consumed_from u n.turning.turns }

abbrev pub put_by : ℕ → ℕ → Node → Packet → Put
put_by v w n packet = record { packet = packet; sealed = mails_to v w n.turning.turns; consumed = consumed_from w n.turning.turns }

abbrev pub mail_out : ℕ → ℕ → Node → Option Message → Outgoing
mail_out v w n None = nothing
mail_out v w n (Some m) = record { puts = put_by v w n (Mail m) ∷ []; outs = [] }

abbrev pub emitted_out : Option Out → Outgoing
emitted_out None = nothing
emitted_out (Some o) = record { puts = []; outs = o ∷ [] }

-- what an event of node v puts and emits
abbrev pub outgoing : ℕ → Node → Event → Outgoing
outgoing v n (Send node to i) = mail_out v to n (unacked v to i n)
outgoing v n (Ack node from) = record { puts = put_by v from n (Answer (receipt_of v from n)) ∷ []; outs = [] }
outgoing v n (Emit node) = emitted_out (due n)
outgoing v n _ = nothing
