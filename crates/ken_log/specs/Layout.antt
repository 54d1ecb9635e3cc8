-- How a log lies in its bytes.
use Rattle.std.specs.Prelude.{◌≡◌, ℕ, ◌+◌, ◌≤◌, List, [], ◌∷◌, ◌++◌, length, Option, Some, None}
use Rattle.std.specs.List.{flat_map, AllByRecursion}
use Rattle.ken_record.specs.declared.header.Header.{Header}
use Rattle.ken_record.specs.declared.base.Base.{Base}
use Rattle.ken_record.specs.declared.record.Record.{Record}
use Rattle.ken_record.specs.Versions.{Version, version_of}
use Rattle.ken_record.specs.Spelling.{header_bytes, base_bytes, record_bytes}
use Rattle.ken_record.specs.Grammar.{IsHeader, IsBase, IsRecord}

-- a record behind its open gate
abbrev pub opened : Version → Record → List ℕ
opened v r = 165 ∷ record_bytes v r

-- a header, and the base behind it
abbrev pub head_bytes : Header → Option Base → List ℕ
head_bytes head None = header_bytes head
head_bytes head (Some base) = header_bytes head ++ base_bytes (version_of head) base

-- these and records, each behind an open gate
abbrev pub log_bytes : Header → Option Base → List Record → List ℕ
log_bytes head base records = (165 ∷ head_bytes head base) ++ flat_map (opened (version_of head)) records

-- a node's first log has no base, and a later one has one of the length that the header tells
abbrev pub HasBase : Header → Option Base → Type 0
HasBase head None = head.generation ≡ 1
HasBase head (Some base) = (2 ≤ head.generation) × IsBase (version_of head) base × (length (base_bytes (version_of head) base) ≡ head.base_len)

-- what a log may begin with
pub record IsHead (head : Header) (base : Option Base) : Type 0 where
  pub fits : IsHeader head
  pub has : HasBase head base

-- a log whose first closed gate is at its end; what follows that is free
pub record IsLogOf (bytes : List ℕ) (head : Header) (base : Option Base) (records : List Record) (end : ℕ) : Type 0 where
  pub gate : ℕ
  pub free : List ℕ
  pub parts : bytes ≡ log_bytes head base records ++ gate ∷ free
  pub closed : gate ≡ 165 → ⊥
  pub header : IsHead head base
  pub items : AllByRecursion (IsRecord (version_of head)) records
  pub place : length (log_bytes head base records) ≡ end
