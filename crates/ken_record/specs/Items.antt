-- An item at the front of bytes.
use Rattle.std.specs.Prelude.{◌≡◌, ℕ, List, ◌++◌, length, Result, Ok, Err}
use Rattle.ken_record.specs.declared.faults.RecordFault.{RecordFault}
use Rattle.ken_record.specs.declared.faults.RecordFault.TheVariants.{Bad, Memory}
use Rattle.ken_record.specs.declared.item.Item.{Item}
use Rattle.ken_record.specs.declared.item.Item.TheVariants as items
use Rattle.ken_record.specs.declared.item.ItemKind.{ItemKind}
use Rattle.ken_record.specs.declared.item.ItemKind.TheVariants as kinds
use Rattle.ken_record.specs.Versions.{Version}
use Rattle.ken_record.specs.Spelling.{header_bytes, base_bytes, record_bytes}
use Rattle.ken_record.specs.Grammar.{IsHeader, IsBase, IsRecord}

abbrev pub kind_of : Item → ItemKind
kind_of (items.Header h) = kinds.Header
kind_of (items.Base b) = kinds.Base
kind_of (items.Record r) = kinds.Record

-- the item is one of the grammar
abbrev pub IsItem : Version → Item → Type 0
IsItem v (items.Header h) = IsHeader h
IsItem v (items.Base b) = IsBase v b
IsItem v (items.Record r) = IsRecord v r

-- its one spelling
abbrev pub spelling : Version → Item → List ℕ
spelling v (items.Header h) = header_bytes h
spelling v (items.Base b) = base_bytes v b
spelling v (items.Record r) = record_bytes v r

-- the bytes begin with an item of the grammar, and rest follows it
pub record Spells (v : Version) (bytes : List ℕ) (item : Item) (rest : List ℕ) : Type 0 where
  pub fits : IsItem v item
  pub parts : bytes ≡ spelling v item ++ rest

-- a call read just this item, with its length, or wanted memory
abbrev pub Reads : Version → Result (Item × ℕ) RecordFault → Item → Type 0
Reads v (Ok x) item = (x.0 ≡ item) × (x.1 ≡ length (spelling v item))
Reads v (Err Memory) item = Unit {0}
Reads v (Err Bad) item = ⊥
