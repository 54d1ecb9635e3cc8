-- What contracts see of files in memory.
use Rattle.std.specs.Prelude.{◌≡◌, ℕ, List, [], true, Option, is_some, option_map, length, Some}
use Rattle.std.specs.BTreeMap.{get_by_text}
use Rattle.std.specs.Option.{option_flatten}
use Rattle.std.specs.List.{Contains}
use Rattle.ken_disk.specs.Causes.{risen}
use Rattle.ken_disk.specs.Story.{IsAtRest}
use Rattle.ken_memdisk.specs.Disks.{InMemory}
use Rattle.ken_files.specs.declared.memory.MemFiles.{MemFiles}
use Rattle.ken_files.specs.Filing.{FileViews, Filing}

-- the file that stands under a path, where none of this path is open
abbrev pub file_at : MemFiles → List ℕ → Option InMemory
file_at files path = option_flatten (get_by_text files.entries path)

-- what a read of it gives
abbrev pub bytes_at : MemFiles → List ℕ → Option (List ℕ)
bytes_at files path = option_map (λ file. file.held.story.now.seen) (file_at files path)

-- all of them; there is room for each path that a file had, as no entry is taken out
abbrev pub filing_of : MemFiles → Filing InMemory
filing_of files = record {
  put = file_at files;
  bytes = bytes_at files;
  failures = files.failures;
  room = λ path. is_some (get_by_text files.entries path);
}

-- no file was put in and none opened, and the openings of these numbers fail
pub record AreUnused (calls : List ℕ) (files : MemFiles) : Type 0 where
  pub entries : files.entries.entries ≡ []
  pub fails : files.fails.items ≡ calls
  pub openings : files.openings ≡ 0
  pub failures : files.failures ≡ 0

-- the next opening is one of those that fail
abbrev pub FailsNext : MemFiles → Type 0
FailsNext files = Contains files.fails.items (risen files.openings)

-- what contracts see of one
abbrev pub file_views : FileViews InMemory
file_views = record { tells = true; told = λ f. Some f.held.story; size = λ f. length f.held.story.now.seen; faults = λ f. f.calls.faults }

-- one that was opened, and an empty one
abbrev pub IsFound : InMemory → Type 0
IsFound file = IsAtRest file.held.story.now × (file.calls.faults ≡ 0)

abbrev pub IsFresh : InMemory → Type 0
IsFresh file = IsAtRest file.held.story.now × (file.calls.faults ≡ 0) × (file.held.story.now.seen ≡ [])
