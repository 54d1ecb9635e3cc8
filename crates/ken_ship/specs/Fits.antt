-- Messages that can be spelled as mail.
use Rattle.std.specs.Prelude.{◌≡◌, ℕ, List, slice_index_or}
use Rattle.std.specs.List.{All}
use Rattle.ken_model.specs.declared.messages.Message.{Message}
use Rattle.ken_record.specs.declared.sent.Sent.{Sent}
use Rattle.ken_record.specs.Grammar.{IsCount, IsSent}
use Rattle.ken_packet.specs.Packets.{IsMail}
use Rattle.ken_outbox.specs.Waiting.{Unacked, no_line}

-- a turn with this stamp may have sent these
pub record AreSent (stamp : ℕ) (sends : List Sent) : Type 0 where
  pub stamped : IsCount stamp
  pub each : All IsSent sends

-- a mail from v
pub record IsMailFrom (v : ℕ) (m : Message) : Type 0 where
  pub is : IsMail m
  pub from : m.from ≡ v

-- a mail from v to u
pub record IsMailTo (v u : ℕ) (m : Message) : Type 0 where
  pub is : IsMail m
  pub from : m.from ≡ v
  pub to : m.to ≡ u

-- on each line stand mails from v to its node
abbrev pub AreMails : ℕ → List Unacked → Type 0
AreMails v lines = (u : ℕ) → All (IsMailTo v u) (slice_index_or lines u no_line).messages
