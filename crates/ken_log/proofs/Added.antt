-- A log after a body was written behind its gate, whatever the answer.
use Rattle.std.proofs.Common.{◌≡◌, ℕ, ◌+◌, ◌≤◌, List, [], ◌∷◌, ◌++◌, length, ap, ◌∙◌, arith, length-append, Option, Result, Ok, Err, OnOk, OnErr, IsErrOf}
use Rattle.ken_disk.specs.declared.faults.DiskFault.TheVariants as disk
use Rattle.ken_disk.specs.Story.{Story, Follows}
use Rattle.ken_disk.specs.Writes.{Made}
use Rattle.ken_record.specs.declared.record.Record.{Record}
use Rattle.ken_record.specs.Versions.{version_of}
use Rattle.ken_record.specs.Spelling.{record_bytes}
use Rattle.ken_record.specs.Grammar.{IsRecord}
use Rattle.ken_log.specs.declared.faults.SealFault.{SealFault}
use Rattle.ken_log.specs.declared.faults.SealFault.TheVariants.{Disk, Memory}
use Rattle.ken_log.specs.declared.log.Log.{Log}
use Rattle.ken_log.specs.Calls.{gate_writes}
use Rattle.ken_log.specs.Mounts.{mount_of, with_record}
use Rattle.ken_log.specs.Seals.{Changes, as_disk}
use Rattle.ken_log.specs.Settled.{IsSettled}
use Rattle.ken_log.proofs.Sealed.{seal_changes, seal_goes_on, seal_settled}

module _ {D : Type 0} (told : D → Option Story) (size : D → ℕ) (log new : Log D) (r : Record) (bytes : List ℕ) (settled : IsSettled told size log) (fit : IsRecord (version_of log.header) r) (spells : bytes ≡ record_bytes (version_of log.header) r ++ 0 ∷ []) where
  abbrev Wrote : Result (Unit {0}) SealFault → Type 0
  Wrote q = Follows (Made (as_disk q) (gate_writes log.end bytes)) (told log.disk) (told new.disk)

  pub body_long : length bytes ≡ 1 + length (record_bytes (version_of log.header) r)
  body_long = omega (arith, ap length spells, length-append (record_bytes (version_of log.header) r) (0 ∷ []))

  pub added_story : (q : Result (Unit {0}) SealFault) → Wrote q → Follows (λ (h s : Story). Changes (mount_of h.now.seen) (with_record r (mount_of h.now.seen)) 2 q h s) (told log.disk) (told new.disk)
  added_story (Ok x) made = seal_changes told size log r bytes settled fit spells {T = Unit {0}} (Ok x) (told new.disk) made
  added_story (Err Disk) made = seal_changes told size log r bytes settled fit spells {T = Unit {0}} (Err disk.Failed) (told new.disk) made
  added_story (Err Memory) made = seal_changes told size log r bytes settled fit spells {T = Unit {0}} (Err disk.Memory) (told new.disk) made

  pub added_grown : (q : Result (Unit {0}) SealFault) → OnOk q ((new.records ≡ log.records + 1) × (new.end ≡ log.end + length bytes)) → OnOk q ((new.records ≡ log.records + 1) × (new.end ≡ log.end + (1 + length (record_bytes (version_of log.header) r))))
  added_grown (Ok x) grown = (grown.0, omega (arith, grown.1, body_long))
  added_grown (Err e) grown = tt

  module _ (header : new.header ≡ log.header) (base : new.base ≡ log.base) where
    pub added_settled : (q : Result (Unit {0}) SealFault) → Wrote q → OnOk q (new.spent ≡ log.spent) → OnOk q ((new.records ≡ log.records + 1) × (new.end ≡ log.end + length bytes)) → OnOk q (log.end + (1 + length bytes) ≤ size new.disk) → OnOk q (IsSettled told size new)
    added_settled (Ok x) made spent grown room = seal_settled told size log r bytes settled fit spells x new made header base (spent ∙ settled.sound) grown.0 (omega (arith, grown.1, body_long)) room
    added_settled (Err e) made spent grown room = tt

    pub added_goes_on : (q : Result (Unit {0}) SealFault) → Wrote q → (IsErrOf q Memory → new.spent ≡ log.spent) → OnErr q ((new.records ≡ log.records) × (new.end ≡ log.end)) → (IsErrOf q Memory → log.end + 1 ≤ size new.disk) → IsErrOf q Memory → IsSettled told size new
    added_goes_on (Ok x) made spent same room is = absurd (let none : ⊥ = cc is in none)
    added_goes_on (Err Disk) made spent same room is = absurd (let none : ⊥ = cc is in none)
    added_goes_on (Err Memory) made spent same room is = seal_goes_on told size log r bytes settled fit spells (Unit {0}) new made header base (spent is ∙ settled.sound) same.0 same.1 (room is)
