-- The base that a log goes over to, and what a turnover makes of the handler's side.
use Rattle.std.specs.Prelude.{◌≡◌, ℕ, ◌+◌, Bool, ◌==◌, ◌&&◌, nat_lt, List, [], ◌++◌, map, filter, slice_index, Option, Some, Result, Ok, Err}
use Rattle.std.specs.List.{flat_map, range_with_len}
use Rattle.ken_disk.specs.Fates.{Fate, Suffers}
use Rattle.ken_disk.specs.Story.{Story, Follows}
use Rattle.ken_model.specs.declared.messages.Message.{Message}
use Rattle.ken_model.specs.declared.messages.Out.{Out}
use Rattle.ken_model.specs.declared.states.State.{State}
use Rattle.ken_record.specs.declared.due.Due.{Due}
use Rattle.ken_record.specs.declared.sent.Sent.{Sent}
use Rattle.ken_record.specs.declared.page.Page.{Page}
use Rattle.ken_record.specs.declared.base.Base.{Base}
use Rattle.ken_record.specs.declared.header.Header.{Header}
use Rattle.ken_record.specs.declared.record.Record.{Record}
use Rattle.ken_log.specs.declared.faults.SealFault.{SealFault}
use Rattle.ken_log.specs.Calls.{log_writes, MadeAfterRead}
use Rattle.ken_log.specs.Formats.{Replaces, next_header}
use Rattle.ken_log.specs.Mounts as mounts
use Rattle.ken_log.specs.Seals.{HasLogCause, as_disk}
use Rattle.ken_cover.specs.declared.layers.Change.{Change}
use Rattle.ken_cover.specs.Sides.{base_changes, turned_pages}
use Rattle.ken_store.specs.declared.turning.TurnSide.{TurnSide}
use Rattle.ken_store.specs.Kept.{base_messages, outs_in}
use Rattle.ken_store.specs.Logs.{other_log}
use Rattle.ken_store.specs.Turning.{turn_pages, state_in}

-- a message that was sent, with the stamp of its record
abbrev pub due_of : ℕ → Sent → Due
due_of stamp s = record { to = s.to; number = s.number; stamp = stamp; bytes = s.bytes }

abbrev pub record_dues : Record → List Due
record_dues r = map (due_of r.stamp) r.sends

-- all messages of a base and of records, oldest first
abbrev pub dues_in : Option Base → List Record → List Due
dues_in base records = base_messages base ++ flat_map record_dues records

-- whether a message goes to a node that hasn't acknowledged its number
abbrev pub is_due : List ℕ → ℕ → Due → Bool
is_due acked to m = (m.to == to) && nat_lt (slice_index acked to) m.number

abbrev pub unacked_to : List ℕ → List Due → ℕ → List Due
unacked_to acked ms to = filter (is_due acked to) ms

-- the messages that aren't acknowledged, by the node that they go to, oldest first
abbrev pub all_due : List ℕ → List Due → List Due
all_due acked ms = flat_map (unacked_to acked ms) (range_with_len 0 8)

-- the outputs that aren't emitted
abbrev pub outs_above : ℕ → List Out → List Out
outs_above emitted outs = filter (λ (o : Out). nat_lt emitted o.number) outs

abbrev pub page_in : Change → Page
page_in c = c.page

abbrev pub turn_in : Change → ℕ
turn_in c = c.turn

-- the changes of the pages that go into a base, by the turn that is told as settled
abbrev pub changes_kept : {D : Type 0} → TurnSide D → ℕ → List Change
changes_kept side settled = base_changes side.owner.pages settled (turn_pages side)

-- the base of the log after this one, by what is told: the settled turn, of each node the number that it has acknowledged, and the last
-- output that was emitted
abbrev pub base_of : {D : Type 0} → TurnSide D → ℕ → List ℕ → ℕ → Base
base_of side settled acked emitted = record {
  stamp = side.numbers.stamp;
  consumed = side.numbers.consumed;
  sent = side.numbers.sent;
  outputs = side.numbers.outputs;
  messages = all_due acked (dues_in side.log.base side.records.items);
  outs = outs_above emitted (outs_in side.log.base side.records.items);
  pages = map page_in (changes_kept side settled);
}

-- a message that its receiver hasn't acknowledged
abbrev pub is_waiting : List ℕ → Message → Bool
is_waiting acked m = nat_lt (slice_index acked m.to) m.number

-- a state without the messages and the outputs that were told
abbrev pub without_told : List ℕ → ℕ → State → State
without_told acked emitted s = record s { messages = filter (is_waiting acked) s.messages; outs = outs_above emitted s.outs }

-- the log went over to the other disk, with a base in place of its records
pub record IsTurned {D : Type 0} (settled : ℕ) (acked : List ℕ) (emitted : ℕ) (old new : TurnSide D) : Type 0 where
  pub live : turn_pages new ≡ turned_pages old.owner.pages settled old.numbers.turns (turn_pages old)
  pub state : state_in new ≡ without_told acked emitted (state_in old)
  pub head : new.log.header ≡ next_header old.log (base_of old settled acked emitted)
  pub base : new.log.base ≡ Some (base_of old settled acked emitted)
  pub records : new.records.items ≡ []
  pub base_turns : new.base_turns.items ≡ map turn_in (changes_kept old settled)
  pub owner : new.owner ≡ old.owner
  pub numbers : new.numbers ≡ old.numbers
  pub objects : new.objects ≡ old.objects
  pub which : new.which ≡ other_log old.which

-- the new log is of the next generation, has no record, and ends behind its header and a base of this length
pub record BeginsWith {D : Type 0} (base : ℕ) (old new : TurnSide D) : Type 0 where
  pub generation : new.log.header.generation ≡ old.log.header.generation + 1
  pub records : new.log.records ≡ 0
  pub ends : new.log.end ≡ 32 + base

-- the log is as it was, but that it may be spent; the other disk may have changed
pub record IsUnturned {D : Type 0} (old new : TurnSide D) : Type 0 where
  pub head : new.log.header ≡ old.log.header
  pub base : new.log.base ≡ old.log.base
  pub records : new.records.items ≡ old.records.items
  pub base_turns : new.base_turns.items ≡ old.base_turns.items
  pub owner : new.owner ≡ old.owner
  pub numbers : new.numbers ≡ old.numbers
  pub objects : new.objects ≡ old.objects
  pub which : new.which ≡ old.which

-- the disk that a turnover writes, and the one that it doesn't: they change places after Ok alone
abbrev pub replaced_disk : {T D F : Type 0} → Result T F → TurnSide D → D
replaced_disk (Ok x) side = side.log.disk
replaced_disk (Err fault) side = side.other

abbrev pub kept_disk : {T D F : Type 0} → Result T F → TurnSide D → D
kept_disk (Ok x) side = side.other
kept_disk (Err fault) side = side.log.disk

-- what a turnover to this header and base does to the disk that it writes
pub record ReplacesOn {D T : Type 0} (told : D → Option Story) (count : D → ℕ) (ahead : D → Option Fate) (result : Result T SealFault) (head : Header) (base : Base) (old new : D) : Type 0 where
  pub story : Follows (λ h s. Replaces (mounts.Whole head (Some base) []) result h s) (told old) (told new)
  pub calls : Follows (λ h s. MadeAfterRead (as_disk result) (log_writes head (Some base) h.now.seen) h s) (told old) (told new)
  pub cause : HasLogCause (count old) (count new) result
  pub fate : Follows (Suffers (as_disk result)) (ahead old) (ahead new)
