-- What the bytes of a log mount as.
use Rattle.std.specs.Prelude.{ℕ, zero, suc, ◌+◌, List, [], ◌∷◌, ◌++◌, length, drop, get_or, Bool, ◌||◌, ◌==◌, not, nat_lt, if◌then◌else◌, Option, Some, None}
use Rattle.ken_record.specs.declared.header.Header.{Header}
use Rattle.ken_record.specs.declared.base.Base.{Base}
use Rattle.ken_record.specs.declared.record.Record.{Record}
use Rattle.ken_record.specs.Versions.{version_of}
use Rattle.ken_record.specs.Spelling.{record_bytes}
use Rattle.ken_record.specs.Reading.{within, header_at, base_at, record_at}

pub data Mounted : Type 0 where
  -- there is no log
  Unformatted : Mounted
  -- the item at this place is wrong: the header at 0, the base at 32, a record at its gate's place, or a missing gate at
  -- the end
  Damaged : ℕ → Mounted
  -- a header, a base where it isn't a node's first log, and the records before the first closed gate
  Whole : Header → Option Base → List Record → Mounted

-- a gate is open where its byte is a5
abbrev pub is_open : ℕ → Bool
is_open gate = gate == 165

-- the records from a gate on, at a place, after those that were found before it; there are at most so many as bytes
unfoldable pub records_from : ℕ → Header → Option Base → List Record → ℕ → List ℕ → Mounted
records_from zero head base found place bytes = Damaged place
records_from (suc most) head base found place [] = Damaged place
records_from (suc most) head base found place (gate ∷ bytes) =
    if is_open gate
    then elim (record_at (version_of head) bytes) [
      | None ↦ Damaged place
      | Some x ↦ records_from most head base (found ++ x.0 ∷ []) (place + (1 + length (record_bytes (version_of head) x.0))) x.1
    ]
    else Whole head base found

-- behind a later log's header stands a base of the length that the header tells
abbrev pub after_base : ℕ → Header → Option (Base × List ℕ) → Mounted
after_base most head (Some x) = records_from most head (Some x.0) [] (32 + head.base_len) x.1
after_base most head None = Damaged 32

-- a node's first log has none
abbrev pub after_header : ℕ → Option (Header × List ℕ) → Mounted
after_header most (Some x) =
    if x.0.generation == 1
    then records_from most x.0 None [] 32 x.1
    else after_base most x.0 (within (base_at (version_of x.0)) x.0.base_len x.1)
after_header most None = Damaged 0

-- a header with its gate takes 32 bytes
abbrev pub is_unformatted : List ℕ → Bool
is_unformatted bytes = nat_lt (length bytes) 32 || not (is_open (get_or bytes 0 0))

unfoldable pub mount_of : List ℕ → Mounted
mount_of bytes = if is_unformatted bytes then Unformatted else after_header (length bytes) (header_at (drop 1 bytes))

-- one record more
abbrev pub with_record : Record → Mounted → Mounted
with_record item (Whole head base records) = Whole head base (records ++ item ∷ [])
with_record item (Damaged place) = Damaged place
with_record item Unformatted = Unformatted
