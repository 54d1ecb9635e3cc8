-- The handler's side, in the pages' words, and what its log tells.
use Rattle.std.specs.Prelude.{◌≡◌, ◌≢◌, ℕ, ◌+◌, ◌*◌, ◌^◌, ◌<◌, ◌≤◌, List, [], ◌∷◌, ◌++◌, length, map, Option, Some, None, Result, Ok, Err, true, IsTrue}
use Rattle.std.specs.List.{AllByRecursion, zip}
use Rattle.ken_disk.specs.Fates.{Fate, Suffers}
use Rattle.ken_disk.specs.Story.{Story, Tells, Follows, IsAtRest}
use Rattle.ken_disk.specs.Writes.{Made}
use Rattle.ken_model.specs.declared.states.State.{State}
use Rattle.ken_model.specs.Reading.{value_of}
use Rattle.ken_alloc.specs.Objects.{Heap, heap_in}
use Rattle.ken_pages.specs.Paged.{page_of, frozen_pages}
use Rattle.ken_record.specs.declared.page.Page.{Page}
use Rattle.ken_record.specs.declared.effects.Effects.{Effects}
use Rattle.ken_record.specs.declared.header.Header.{Header}
use Rattle.ken_record.specs.declared.base.Base.{Base}
use Rattle.ken_record.specs.declared.record.Record.{Record}
use Rattle.ken_record.specs.Grammar.{IsRecord, rise_from, page_rank}
use Rattle.ken_record.specs.Versions.{One}
use Rattle.ken_log.specs.declared.faults.SealFault.{SealFault}
use Rattle.ken_log.specs.declared.faults.SealFault.TheVariants as seals
use Rattle.ken_log.specs.Calls.{seal_writes}
use Rattle.ken_log.specs.Mounts.{mount_of, with_record}
use Rattle.ken_log.specs.Mounts as mounts
use Rattle.ken_log.specs.Seals.{Changes, HasLogCause, as_disk}
use Rattle.ken_log.specs.Settled.{IsSettled}
use Rattle.ken_cover.specs.declared.layers.Change.{Change}
use Rattle.ken_cover.specs.declared.layers.Layer.{Layer}
use Rattle.ken_cover.specs.Sides.{TurnPages, changes_at, sealed_pages}
use Rattle.ken_store.specs.declared.owner.Owner.{Owner}
use Rattle.ken_store.specs.declared.heads.Front.{Front}
use Rattle.ken_store.specs.declared.heads.Front.TheVariants.{Absent, Wrong, Begins}
use Rattle.ken_store.specs.declared.faults.StoreFault.{StoreFault}
use Rattle.ken_store.specs.declared.faults.StoreFault.TheVariants as faults
use Rattle.ken_store.specs.declared.turning.TurnSide.{TurnSide}
use Rattle.ken_store.specs.Logs.{front_of, is_owned}
use Rattle.ken_store.specs.Numbers.{after_record, follows}
use Rattle.ken_store.specs.Kept.{base_pages}
use Rattle.ken_store.specs.Recovered.{numbers_of, state_of}

-- pages, each with the turn that last changed it
abbrev pub changed_in : ℕ × Page → Change
changed_in x = record { turn = x.0; page = x.1 }

-- a log's base as a layer, if it has one: its pages keep the turns that last changed them
abbrev pub base_layers : Header → Option Base → List ℕ → List Layer
base_layers head None turns = []
base_layers head (Some b) turns = record { turn = head.turns; changes = map changed_in (zip turns b.pages) } ∷ []

abbrev pub record_layer : Record → Layer
record_layer r = record { turn = r.turn; changes = changes_at r.turn r.pages }

-- the live records, the base first
abbrev pub live_layers : Header → Option Base → List ℕ → List Record → List Layer
live_layers head base turns records = base_layers head base turns ++ map record_layer records

-- the bytes after the sealed turns: those at `begin` where a turn is begun
abbrev pub sealed_bytes : List ℕ → Option (List ℕ) → List ℕ
sealed_bytes bytes (Some before) = before
sealed_bytes bytes None = bytes

abbrev pub turn_pages : {D : Type 0} → TurnSide D → TurnPages
turn_pages side = record {
  heap = sealed_bytes side.objects.bytes side.objects.begun;
  live = live_layers side.log.header side.log.base side.base_turns.items side.records.items;
}

-- what the log tells, but for the heap
abbrev pub state_in : {D : Type 0} → TurnSide D → State
state_in side = state_of side.owner.node side.numbers side.log.base side.records.items

-- a recovery passes over what another log's disk begins with
abbrev pub IsPassed : Owner → Header → Front → Type 0
IsPassed o head Absent = Unit {0}
IsPassed o head Wrong = ⊥
IsPassed o head (Begins h) = (h.generation < head.generation) × (is_owned o h ≡ true)

-- the log is its owner's, and a recovery passes over what the other disk begins with
pub record PassesOver (o : Owner) (head : Header) (other : Front) : Type 0 where
  pub owned : is_owned o head ≡ true
  pub passed : IsPassed o head other

-- a node of a run
pub record IsOwner (o : Owner) : Type 0 where
  pub node : o.node < o.nodes
  pub nodes : o.nodes ≤ 8
  pub some : 1 ≤ o.pages
  pub most : o.pages ≤ 4096

-- a heap of so many pages, with the turn that may be begun on it
pub record HasPages (n : ℕ) (h : Heap) : Type 0 where
  pub bytes : length h.bytes ≡ 256 * n
  pub before : (b : List ℕ) → h.begun ≡ Some b → length b ≡ 256 * n

-- a side that takes calls
pub record Turning {D : Type 0} (told : D → Option Story) (size : D → ℕ) (side : TurnSide D) : Type 0 where
  pub owner : IsOwner side.owner
  pub log : IsSettled told size side.log
  pub mounts : Tells (told side.log.disk) (λ h. mount_of h.now.seen ≡ mounts.Whole side.log.header side.log.base side.records.items)
  pub count : side.log.records ≡ length side.records.items
  pub items : AllByRecursion (IsRecord One) side.records.items
  pub numbers : numbers_of side.owner side.log.header side.log.base side.records.items ≡ Ok side.numbers
  pub heap : HasPages side.owner.pages (heap_in side.objects)
  pub turns : length side.base_turns.items ≡ length (base_pages side.log.base)
  pub rests : Tells (told side.other) (λ s. IsAtRest s.now)
  pub other : Tells (told side.log.disk) (λ h. Tells (told side.other) (λ s. PassesOver side.owner side.log.header (front_of s.now.seen)))

-- all but the heap of objects is as it was
pub record KeepsLog {D : Type 0} (old new : TurnSide D) : Type 0 where
  pub owner : new.owner ≡ old.owner
  pub log : new.log ≡ old.log
  pub which : new.which ≡ old.which
  pub other : new.other ≡ old.other
  pub numbers : new.numbers ≡ old.numbers
  pub base_turns : new.base_turns.items ≡ old.base_turns.items
  pub records : new.records.items ≡ old.records.items

-- the heap with a turn begun on it
abbrev pub begun_on : Heap → Heap
begun_on h = record h { begun = Some h.bytes }

-- the heap as it was at `begin`, where a turn is begun
abbrev pub undone_from : Heap → Option (List ℕ) → Heap
undone_from h None = h
undone_from h (Some before) = record { value = value_of before; bytes = before; begun = None }

abbrev pub undone : Heap → Heap
undone h = undone_from h h.begun

-- a turn's record
abbrev pub record_of : ℕ → Effects → List Page → Record
record_of turn e pages = record { turn = turn; stamp = e.stamp; from = e.from; number = e.number; draws = e.draws; sends = e.sends; outs = e.outs; pages = pages }

-- a turn with these effects may be sealed: they have a spelling, their numbers go on, and the log has room for the longest record
pub record MaySeal {D : Type 0} (side : TurnSide D) (e : Effects) : Type 0 where
  pub fits : IsRecord One (record_of (side.numbers.turns + 1) e [])
  pub follows : follows side.owner side.numbers (record_of (side.numbers.turns + 1) e []) ≡ true
  pub room : side.log.end + 1081844 ≤ 2 ^ 40

abbrev pub as_page : ℕ × List ℕ → Page
as_page x = record { page = x.0; bytes = x.1 }

-- the pages that a turn changed, as they are now
abbrev pub changed_pages : Option (List ℕ) → List ℕ → List Page
changed_pages (Some before) now = map as_page (frozen_pages before now)
changed_pages None now = []

-- the record of the turn that is begun
abbrev pub coming_record : {D : Type 0} → TurnSide D → Effects → Record
coming_record side e = record_of (side.numbers.turns + 1) e (changed_pages side.objects.begun side.objects.bytes)

-- a page that a turn changed: it lies in the heap, and isn't as it was there
pub record IsChangedPage (heap : List ℕ) (e : Page) : Type 0 where
  pub within : 256 * e.page + 256 ≤ length heap
  pub bytes : length e.bytes ≡ 256
  pub differs : page_of heap e.page ≢ e.bytes

-- the pages that a turn changed, rising
pub record AreChangedPages (heap : List ℕ) (pages : List Page) : Type 0 where
  pub rising : IsTrue (rise_from page_rank 0 pages)
  pub each : AllByRecursion (IsChangedPage heap) pages

-- a turn was sealed with this number and these pages
pub record IsSealed {D : Type 0} (e : Effects) (old : TurnSide D) (turn : ℕ) (pages : List Page) (new : TurnSide D) : Type 0 where
  pub counted : turn ≡ old.numbers.turns + 1
  pub changed : pages ≡ changed_pages old.objects.begun old.objects.bytes
  pub live : turn_pages new ≡ sealed_pages turn pages (turn_pages old)
  pub records : new.records.items ≡ old.records.items ++ record_of turn e pages ∷ []
  pub numbers : new.numbers ≡ after_record old.numbers (record_of turn e pages)
  pub objects : heap_in new.objects ≡ record (heap_in old.objects) { begun = None }
  pub head : new.log.header ≡ old.log.header
  pub base : new.log.base ≡ old.log.base
  pub base_turns : new.base_turns.items ≡ old.base_turns.items

-- nothing is left of the turn that was begun
pub record IsUndone {D : Type 0} (old new : TurnSide D) : Type 0 where
  pub objects : heap_in new.objects ≡ undone (heap_in old.objects)
  pub live : turn_pages new ≡ turn_pages old
  pub records : new.records.items ≡ old.records.items
  pub numbers : new.numbers ≡ old.numbers
  pub head : new.log.header ≡ old.log.header
  pub base : new.log.base ≡ old.log.base
  pub base_turns : new.base_turns.items ≡ old.base_turns.items

-- the turn is still begun, and its record isn't among those that are kept
pub record IsStillBegun {D : Type 0} (old new : TurnSide D) : Type 0 where
  pub objects : heap_in new.objects ≡ heap_in old.objects
  pub records : new.records.items ≡ old.records.items
  pub numbers : new.numbers ≡ old.numbers
  pub head : new.log.header ≡ old.log.header
  pub base : new.log.base ≡ old.log.base
  pub base_turns : new.base_turns.items ≡ old.base_turns.items

-- the node, and the disk of its other log, are as they were
pub record IsSameNode {D : Type 0} (old new : TurnSide D) : Type 0 where
  pub owner : new.owner ≡ old.owner
  pub which : new.which ≡ old.which
  pub other : new.other ≡ old.other

-- the answer of the log behind a store's
abbrev pub log_answer : {T : Type 0} → Result T StoreFault → Result T SealFault
log_answer (Ok x) = Ok x
log_answer (Err faults.Disk) = Err seals.Disk
log_answer (Err faults.Memory) = Err seals.Memory
log_answer (Err (faults.Damaged disk place)) = Err seals.Memory

-- what the seal of a record, whose gate is at this place, does to the log's disk
pub record SealsOn {D T : Type 0} (told : D → Option Story) (count : D → ℕ) (ahead : D → Option Fate) (result : Result T SealFault) (place : ℕ) (item : Record) (old new : D) : Type 0 where
  pub story : Follows (λ h s. Changes (mount_of h.now.seen) (with_record item (mount_of h.now.seen)) 2 result h s) (told old) (told new)
  pub calls : Follows (Made (as_disk result) (seal_writes One place item)) (told old) (told new)
  pub cause : HasLogCause (count old) (count new) result
  pub fate : Follows (Suffers (as_disk result)) (ahead old) (ahead new)
