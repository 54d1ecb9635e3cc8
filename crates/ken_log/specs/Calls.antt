-- The writes of a format, a seal and a turnover, each with its sync, in their order.
use Rattle.std.specs.Prelude.{◌≡◌, ℕ, ◌+◌, ◌⊎◌, List, [], ◌∷◌, ◌++◌, length, get_or, ◌==◌, ◌||◌, if◌then◌else◌, Option, Result, Ok, Err}
use Rattle.ken_disk.specs.declared.faults.DiskFault.{DiskFault}
use Rattle.ken_disk.specs.declared.faults.DiskFault.TheVariants.{Failed, Memory}
use Rattle.ken_disk.specs.Story.{Story}
use Rattle.ken_disk.specs.Writes.{Made}
use Rattle.ken_record.specs.declared.header.Header.{Header}
use Rattle.ken_record.specs.declared.base.Base.{Base}
use Rattle.ken_record.specs.declared.record.Record.{Record}
use Rattle.ken_record.specs.Versions.{Version}
use Rattle.ken_record.specs.Spelling.{record_bytes}
use Rattle.ken_log.specs.Layout.{head_bytes}
use Rattle.ken_log.specs.Mounts.{is_open}

-- bytes behind a closed gate, and then the gate, open
abbrev pub gate_writes : ℕ → List ℕ → List (ℕ × List ℕ)
gate_writes at body = (at + 1, body) ∷ (at, 165 ∷ []) ∷ []

-- two, from the gate's place on: the record with the next gate, closed, and then the gate
abbrev pub seal_writes : Version → ℕ → Record → List (ℕ × List ℕ)
seal_writes v place item = gate_writes place (record_bytes v item ++ 0 ∷ [])

-- what closes the first gate: nothing, where it is there and closed
abbrev pub closing : List ℕ → List ℕ
closing seen = if length seen == 0 || is_open (get_or seen 0 0) then 0 ∷ [] else []

-- three: the first gate is closed, then bytes behind it, and then the first gate
abbrev pub first_writes : List ℕ → List ℕ → List (ℕ × List ℕ)
first_writes body seen = (0, closing seen) ∷ gate_writes 0 body

-- the bytes of a format and of a turnover: the header and its base, and the next gate, closed
abbrev pub log_writes : Header → Option Base → List ℕ → List (ℕ × List ℕ)
log_writes head base seen = first_writes (head_bytes head base ++ 0 ∷ []) seen

-- writes after a read that may fail; then nothing is written
abbrev pub MadeAfterRead : {T : Type 0} → Result T DiskFault → List (ℕ × List ℕ) → Story → Story → Type 0
MadeAfterRead (Ok x) writes old new = Made (Ok x) writes old new
MadeAfterRead {T} (Err Failed) writes old new = (new ≡ old) ⊎ Made {T = T} (Err Failed) writes old new
MadeAfterRead {T} (Err Memory) writes old new = Made {T = T} (Err Memory) writes old new
