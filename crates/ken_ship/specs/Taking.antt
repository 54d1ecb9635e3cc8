-- What an externaliser takes of packets that it is given.
use Rattle.std.specs.Prelude.{◌≡◌, ◌≢◌, ℕ, ◌+◌, ◌≤◌, ◌⊎◌, nat_le, nat_lt, ◌==◌, ◌&&◌, if◌then◌else◌, Bool, List, [], ◌∷◌, ◌++◌, length, slice_set, slice_index_or, Option, Some, None}
use Rattle.std.specs.List.{flat_map}
use Rattle.ken_packet.specs.declared.packet.Packet.{Packet}
use Rattle.ken_packet.specs.declared.packet.Packet.TheVariants.{Mail, Ack}
use Rattle.ken_packet.specs.Reading.{packet_of}
use Rattle.ken_net.specs.Counts.{risen}
use Rattle.ken_outbox.specs.Waiting.{Unacked, Waiting, no_line, acked_by}
use Rattle.ken_ship.specs.declared.hearing.TheConstants.{MOST_TAKEN}
use Rattle.ken_ship.specs.Handing.{acked_in, told_in}
use Rattle.ken_ship.specs.Parts.{Part}

-- the acknowledgement that a packet is, where it is one to v from one of so many nodes: its sender, and how far it goes
abbrev pub ack_in : ℕ → ℕ → Option Packet → List (ℕ × ℕ)
ack_in v nodes (Some (Ack from to through)) = if (to == v) && nat_lt from nodes then (from, through) ∷ [] else []
ack_in v nodes (Some (Mail m)) = []
ack_in v nodes None = []

-- those among packets, in order
abbrev pub acks_in : ℕ → ℕ → List (List ℕ) → List (ℕ × ℕ)
acks_in v nodes packets = flat_map (λ (bytes : List ℕ). ack_in v nodes (packet_of bytes)) packets

-- how far the messages of a line go that were handed over
abbrev pub handed_by : Unacked → ℕ
handed_by l = l.acked + length l.messages

-- whether an acknowledgement goes no further than what was handed over
abbrev pub goes_no_further : List Unacked → ℕ × ℕ → Bool
goes_no_further lines a = nat_le a.1 (handed_by (slice_index_or lines a.0 no_line))

-- lines after an acknowledgement: one that goes further is let go
abbrev pub after_ack : ℕ × ℕ → List Unacked → List Unacked
after_ack a lines = if goes_no_further lines a then slice_set lines a.0 (acked_by a.1 (slice_index_or lines a.0 no_line)) else lines

-- and after acknowledgements
abbrev pub after_acks : List (ℕ × ℕ) → List Unacked → List Unacked
after_acks [] lines = lines
after_acks (a ∷ rest) lines = after_acks rest (after_ack a lines)

-- those of them that were taken
abbrev pub acks_taken : List (ℕ × ℕ) → List Unacked → List (ℕ × ℕ)
acks_taken [] lines = []
acks_taken (a ∷ rest) lines = if goes_no_further lines a then a ∷ acks_taken rest (after_ack a lines) else acks_taken rest lines

-- packets were given to node v until the count of those that weren't rose, or 4,096 were; the acknowledgements to v among
-- them that go no further than what was handed over were taken, and all else was let go
pub record Heard (v nodes : ℕ) (gave : List (List ℕ) → Type 0) (nones nones2 : ℕ) (old new : Waiting) : Type 0 where
  pub packets : List (List ℕ)
  pub given : gave packets
  pub most : length packets ≤ MOST_TAKEN
  pub until : (length packets ≡ MOST_TAKEN) ⊎ (risen nones ≤ nones2)
  pub taken : new ≡ record old { lines = after_acks (acks_in v nodes packets) old.lines }

-- where an acknowledged number rose the handler is told, with the turns that were handed over by then, and else it isn't
pub record TellsRisen (old new : Part) : Type 0 where
  pub risen_told : acked_in new.due.lines ≢ acked_in old.due.lines → new.told ≡ old.told ++ told_in new.handed new.due ∷ []
  pub same_not_told : acked_in new.due.lines ≡ acked_in old.due.lines → new.told ≡ old.told
