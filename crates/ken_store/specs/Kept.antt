-- What a log keeps beside numbers: messages, outputs and pages.
use Rattle.std.specs.Prelude.{ℕ, ◌==◌, List, [], ◌++◌, map, filter, Option, Some, None}
use Rattle.std.specs.List.{flat_map, range_with_len}
use Rattle.ken_model.specs.declared.messages.Message.{Message}
use Rattle.ken_model.specs.declared.messages.Out.{Out}
use Rattle.ken_record.specs.declared.due.Due.{Due}
use Rattle.ken_record.specs.declared.sent.Sent.{Sent}
use Rattle.ken_record.specs.declared.page.Page.{Page}
use Rattle.ken_record.specs.declared.base.Base.{Base}
use Rattle.ken_record.specs.declared.record.Record.{Record}
use Rattle.ken_cover.specs.Overlay.{AreWithin}

-- a message of a base, and one of a record, as their node sent it
abbrev pub message_due : ℕ → Due → Message
message_due node m = record { from = node; to = m.to; number = m.number; stamp = m.stamp; bytes = m.bytes }

abbrev pub message_sent : ℕ → ℕ → Sent → Message
message_sent node stamp s = record { from = node; to = s.to; number = s.number; stamp = stamp; bytes = s.bytes }

-- those to one node
abbrev pub due_to : ℕ → ℕ → List Due → List Message
due_to node to ms = map (message_due node) (filter (λ (m : Due). m.to == to) ms)

abbrev pub sent_to : ℕ → ℕ → Record → List Message
sent_to node to r = map (message_sent node r.stamp) (filter (λ (s : Sent). s.to == to) r.sends)

abbrev pub base_messages : Option Base → List Due
base_messages (Some b) = b.messages
base_messages None = []

abbrev pub base_outs : Option Base → List Out
base_outs (Some b) = b.outs
base_outs None = []

abbrev pub base_pages : Option Base → List Page
base_pages (Some b) = b.pages
base_pages None = []

-- all messages to a node, oldest first
abbrev pub messages_to : ℕ → Option Base → List Record → ℕ → List Message
messages_to node base records to = due_to node to (base_messages base) ++ flat_map (sent_to node to) records

-- all messages, by the node that they go to
abbrev pub messages_in : ℕ → Option Base → List Record → List Message
messages_in node base records = flat_map (messages_to node base records) (range_with_len 0 8)

abbrev pub record_outs : Record → List Out
record_outs r = r.outs

abbrev pub outs_in : Option Base → List Record → List Out
outs_in base records = base_outs base ++ flat_map record_outs records

-- the pages of a record are whole, and of a heap of so many
abbrev pub HasPagesWithin : ℕ → Record → Type 0
HasPagesWithin pages r = AreWithin pages r.pages

-- the pages, oldest first
abbrev pub record_pages : Record → List Page
record_pages r = r.pages

abbrev pub pages_in : Option Base → List Record → List Page
pages_in base records = base_pages base ++ flat_map record_pages records
