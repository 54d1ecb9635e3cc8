-- A log that takes seals.
use Rattle.std.specs.Prelude.{◌≡◌, ℕ, ◌+◌, ◌≤◌, List, length, Option, false}
use Rattle.ken_disk.specs.Story.{Story, Tells, IsAtRest}
use Rattle.ken_record.specs.declared.record.Record.{Record}
use Rattle.ken_log.specs.declared.log.Log.{Log}
use Rattle.ken_log.specs.Mounts.{Mounted, Whole}
use Rattle.ken_log.specs.Layout.{IsHead, IsLogOf}

-- the disk holds these records
pub record Holds {D : Type 0} (log : Log D) (bytes : List ℕ) : Type 0 where
  pub items : List Record
  pub lies : IsLogOf bytes log.header log.base items log.end
  pub count : log.records ≡ length items

-- nothing is pending, and what a read gives is this log
pub record IsSettled {D : Type 0} (told : D → Option Story) (size : D → ℕ) (log : Log D) : Type 0 where
  pub sound : log.spent ≡ false
  pub header : IsHead log.header log.base
  pub few : log.records ≤ log.end
  pub room : log.end + 1 ≤ size log.disk
  pub rests : Tells (told log.disk) (λ h. IsAtRest h.now)
  pub holds : Tells (told log.disk) (λ h. Holds log h.now.seen)

-- something mounts as the log's header and base with as many records as it counts
pub record IsMountedAs {D : Type 0} (log : Log D) (mounted : Mounted) : Type 0 where
  pub items : List Record
  pub is : mounted ≡ Whole log.header log.base items
  pub count : log.records ≡ length items
