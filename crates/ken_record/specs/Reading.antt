-- Reading from the front of bytes: a reader gives a value and the bytes after it, or nothing.
use Rattle.std.specs.Prelude.{◌≡◌, ℕ, zero, suc, List, [], ◌∷◌, length, take, drop, Bool, true, ◌&&◌, ◌||◌, not, nat_lt, ◌==◌, if◌then◌else◌, Option, Some, None, Result, Ok, Err}
use Rattle.byteorder.specs.Endian.{big_number}
use Rattle.ken_model.specs.declared.messages.Out.{Out}
use Rattle.ken_record.specs.declared.faults.RecordFault.{RecordFault}
use Rattle.ken_record.specs.declared.faults.RecordFault.TheVariants.{Bad, Memory}
use Rattle.ken_record.specs.declared.due.Due.{Due}
use Rattle.ken_record.specs.declared.sent.Sent.{Sent}
use Rattle.ken_record.specs.declared.page.Page.{Page}
use Rattle.ken_record.specs.declared.header.Header.{Header}
use Rattle.ken_record.specs.declared.base.Base.{Base}
use Rattle.ken_record.specs.declared.record.Record.{Record}
use Rattle.ken_record.specs.declared.item.Item.{Item}
use Rattle.ken_record.specs.declared.item.Item.TheVariants as items
use Rattle.ken_record.specs.declared.item.ItemKind.{ItemKind}
use Rattle.ken_record.specs.declared.item.ItemKind.TheVariants as kinds
use Rattle.ken_record.specs.Versions.{Version, One, version_byte, most_fields, senders}
use Rattle.ken_record.specs.Grammar.{rise_from, page_rank, are_numbered, are_short, base_rises}

-- What a function returned, seen by view, is what reading gives, unless memory ran out.
abbrev pub Fails : {Y : Type 0} → RecordFault → Option Y → Type 0
Fails Bad read = read ≡ None
Fails Memory read = Unit {0}

abbrev pub Gives : {X Y : Type 0} → (X → Y) → Result X RecordFault → Option Y → Type 0
Gives view (Ok x) read = read ≡ Some (view x)
Gives view (Err e) read = Fails e read

infixl 10 ◌>>=◌
abbrev pub ◌>>=◌ : {A B : Type 0} → Option A → (A → Option B) → Option B
None >>= f = None
(Some x) >>= f = f x

-- a number of w bytes, the highest first
unfoldable pub number_at : ℕ → List ℕ → Option (ℕ × List ℕ)
number_at w bytes = if nat_lt (length bytes) w then None else Some (big_number w bytes, drop w bytes)

-- so many bytes
unfoldable pub part_at : ℕ → List ℕ → Option (List ℕ × List ℕ)
part_at n bytes = if nat_lt (length bytes) n then None else Some (take n bytes, drop n bytes)

-- one after the other
abbrev pub seq : {A B : Type 0} → (List ℕ → Option (A × List ℕ)) → (List ℕ → Option (B × List ℕ)) → List ℕ → Option ((A × B) × List ℕ)
seq first second bytes = do
  a ← first bytes
  b ← second a.1
  Some ((a.0, b.0), b.1)

-- what is read is made into another value, where the test holds
abbrev pub made : {A B : Type 0} → (A → Bool) → (A → B) → (List ℕ → Option (A × List ℕ)) → List ℕ → Option (B × List ℕ)
made test make reads bytes = do
  a ← reads bytes
  if test a.0 then Some (make a.0, a.1) else None

-- a number of w bytes, at most so much, and what is read by that number
abbrev pub sized : {A : Type 0} → ℕ → ℕ → (ℕ → List ℕ → Option (A × List ℕ)) → List ℕ → Option (A × List ℕ)
sized w most reads bytes = do
  n ← number_at w bytes
  if nat_lt most n.0 then None else reads n.0 n.1

-- so many items
unfoldable pub items_at : {A : Type 0} → (List ℕ → Option (A × List ℕ)) → ℕ → List ℕ → Option (List A × List ℕ)
items_at reads zero bytes = Some ([], bytes)
items_at reads (suc n) bytes = do
  first ← reads bytes
  others ← items_at reads n first.1
  Some (first.0 ∷ others.0, others.1)

-- so many bytes, which are just what a reader takes
unfoldable pub within : {A : Type 0} → (List ℕ → Option (A × List ℕ)) → ℕ → List ℕ → Option (A × List ℕ)
within reads n bytes = do
  part ← part_at n bytes
  x ← reads part.0
  if length x.1 == 0 then Some (x.0, part.1) else None

-- two bytes of length, at most 512, and so many bytes
unfoldable pub text_at : List ℕ → Option (List ℕ × List ℕ)
text_at bytes = sized 2 512 part_at bytes

-- two bytes of length, and so many bytes
unfoldable pub long_text_at : List ℕ → Option (List ℕ × List ℕ)
long_text_at bytes = sized 2 0xffff part_at bytes

-- the node that it goes to, its number and its bytes
unfoldable pub sent_at : List ℕ → Option (Sent × List ℕ)
sent_at bytes = made (λ x. nat_lt x.0 8 && nat_lt 0 x.1.0) (λ x. record { to = x.0; number = x.1.0; bytes = x.1.1 }) (seq (number_at 1) (seq (number_at 8) text_at)) bytes

-- the same with a stamp, and as long as its length tells
unfoldable pub due_at : List ℕ → Option (Due × List ℕ)
due_at bytes = made (λ x. true) (λ x. record { to = x.0; number = x.1.0; stamp = x.1.1.0; bytes = x.1.1.1 }) (seq (number_at 1) (seq (number_at 8) (seq (number_at 8) long_text_at))) bytes

unfoldable pub out_at : List ℕ → Option (Out × List ℕ)
out_at bytes = made (λ x. true) (λ x. record { number = x.0; text = x.1 }) (seq (number_at 8) long_text_at) bytes

unfoldable pub page_at : List ℕ → Option (Page × List ℕ)
page_at bytes = made (λ x. true) (λ x. record { page = x.0; bytes = x.1 }) (seq (number_at 4) (part_at 256)) bytes

-- the turn, the stamp, the sender and the number of a record
unfoldable pub origin_at : List ℕ → Option ((ℕ × (ℕ × (ℕ × ℕ))) × List ℕ)
origin_at bytes = seq (number_at 8) (seq (number_at 8) (seq (number_at 1) (number_at 8))) bytes

-- its draws, sends, outs and pages
unfoldable pub lists_at : List ℕ → Option ((List ℕ × (List Sent × (List Out × List Page))) × List ℕ)
lists_at bytes = seq (sized 1 16 (items_at (number_at 8))) (seq (sized 1 16 (items_at sent_at)) (seq (sized 1 16 (items_at out_at)) (sized 2 4096 (items_at page_at)))) bytes

-- whether its fields are in range, its outputs numbered and its pages rise, where the items of its lists are in range
abbrev pub is_sound : Record → Bool
is_sound r = nat_lt 0 r.turn && nat_lt 0 r.stamp && (nat_lt r.from 8 || r.from == 255) && nat_lt 0 r.number && are_numbered r.outs && rise_from page_rank 0 r.pages

abbrev pub record_of : (ℕ × (ℕ × (ℕ × ℕ))) × (List ℕ × (List Sent × (List Out × List Page))) → Record
record_of x = record { turn = x.0.0; stamp = x.0.1.0; from = x.0.1.1.0; number = x.0.1.1.1; draws = x.1.0; sends = x.1.1.0; outs = x.1.1.1.0; pages = x.1.1.1.1 }

unfoldable pub fields_at : Version → List ℕ → Option (Record × List ℕ)
fields_at One bytes = made (λ x. is_sound (record_of x) && are_short (record_of x).outs) record_of (seq origin_at lists_at) bytes

-- a length, and just so many bytes of fields
unfoldable pub record_at : Version → List ℕ → Option (Record × List ℕ)
record_at v bytes = sized 4 (most_fields v) (within (fields_at v)) bytes

-- the stamp of a base, and what was consumed, sent and output
unfoldable pub counts_at : Version → List ℕ → Option ((ℕ × (List ℕ × (List ℕ × ℕ))) × List ℕ)
counts_at v bytes = seq (number_at 8) (seq (items_at (number_at 8) (senders v)) (seq (items_at (number_at 8) 8) (number_at 8))) bytes

-- its messages, outputs and pages
unfoldable pub kept_at : List ℕ → Option ((List Due × (List Out × List Page)) × List ℕ)
kept_at bytes = seq (sized 4 0xffff_ffff (items_at due_at)) (seq (sized 4 0xffff_ffff (items_at out_at)) (sized 2 0xffff (items_at page_at))) bytes

abbrev pub base_of : (ℕ × (List ℕ × (List ℕ × ℕ))) × (List Due × (List Out × List Page)) → Base
base_of x = record { stamp = x.0.0; consumed = x.0.1.0; sent = x.0.1.1.0; outputs = x.0.1.1.1; messages = x.1.0; outs = x.1.1.0; pages = x.1.1.1 }

unfoldable pub base_at : Version → List ℕ → Option (Base × List ℕ)
base_at One bytes = made (λ x. base_rises (base_of x)) base_of (seq (counts_at One) kept_at) bytes

-- whether the fields of a header are in range
abbrev pub is_sound_header : Header → Bool
is_sound_header h = nat_lt 0 h.generation && (not (h.generation == 1) || (h.turns == 0 && h.base_len == 0))

-- the name and the version
unfoldable pub mark_at : List ℕ → Option ((ℕ × ℕ) × List ℕ)
mark_at bytes = seq (number_at 4) (number_at 1) bytes

-- the node, the nodes, the pages and the generation
unfoldable pub place_at : List ℕ → Option ((ℕ × (ℕ × (ℕ × ℕ))) × List ℕ)
place_at bytes = seq (number_at 1) (seq (number_at 1) (seq (number_at 4) (number_at 4))) bytes

-- the turns, the length of the base and a zero
unfoldable pub past_at : List ℕ → Option ((ℕ × (ℕ × ℕ)) × List ℕ)
past_at bytes = seq (number_at 8) (seq (number_at 4) (number_at 4)) bytes

abbrev pub header_of : (ℕ × ℕ) × ((ℕ × (ℕ × (ℕ × ℕ))) × (ℕ × (ℕ × ℕ))) → Header
header_of x = record { node = x.1.0.0; nodes = x.1.0.1.0; pages = x.1.0.1.1.0; generation = x.1.0.1.1.1; turns = x.1.1.0; base_len = x.1.1.1.0 }

-- the name KENL, a version that there is, fields in range, and a zero
unfoldable pub header_at : List ℕ → Option (Header × List ℕ)
header_at bytes = made (λ x. x.0.0 == 0x4b45_4e4c && x.0.1 == version_byte One && x.1.1.1.1 == 0 && is_sound_header (header_of x)) header_of (seq mark_at (seq place_at past_at)) bytes

-- the item of a kind at the front of bytes
unfoldable pub item_at : Version → ItemKind → List ℕ → Option (Item × List ℕ)
item_at v kinds.Header bytes = header_at bytes >>= λ x. Some (items.Header x.0, x.1)
item_at v kinds.Base bytes = base_at v bytes >>= λ x. Some (items.Base x.0, x.1)
item_at v kinds.Record bytes = record_at v bytes >>= λ x. Some (items.Record x.0, x.1)
