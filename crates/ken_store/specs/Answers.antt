-- What the answer of a recovery says of its disks.
use Rattle.std.specs.Prelude.{◌≡◌, ℕ, List, Option, Result, Ok, Err}
use Rattle.ken_disk.specs.Story.{Story, Tells, IsAtRest}
use Rattle.ken_model.specs.declared.states.State.{State}
use Rattle.ken_model.specs.Broken.{BreaksAt}
use Rattle.ken_model.specs.Layout.{StandsFor}
use Rattle.ken_alloc.specs.Objects.{FramedHeap}
use Rattle.ken_record.specs.declared.record.Record.{Record}
use Rattle.ken_log.specs.declared.log.Log.{Log}
use Rattle.ken_log.specs.Mounts.{mount_of}
use Rattle.ken_log.specs.Mounts as mounts
use Rattle.ken_store.specs.declared.disks.Disks.{Disks}
use Rattle.ken_store.specs.declared.disks.Which.{Which}
use Rattle.ken_store.specs.declared.disks.Which.TheVariants.{First, Second}
use Rattle.ken_store.specs.declared.faults.StoreFault.{StoreFault}
use Rattle.ken_store.specs.declared.faults.StoreFault.TheVariants as faults
use Rattle.ken_store.specs.declared.numbers.Numbers.{Numbers}
use Rattle.ken_store.specs.declared.store.Store.{Store}
use Rattle.ken_store.specs.declared.store.Recovered.{Recovered}
use Rattle.ken_store.specs.declared.store.Recovered.TheVariants as found
use Rattle.ken_store.specs.Logs.{log_on}
use Rattle.ken_store.specs.Recovered.{Recovery, Fresh, Whole, IsRefusedAt}

-- P holds of the stories of a node's disks, where they are told
abbrev pub TellsAll : {D : Type 0} → (D → Option Story) → Disks D → (Story → Story → Story → Type 0) → Type 0
TellsAll told disks P = Tells (told disks.log) (λ l. Tells (told disks.image) (λ i. Tells (told disks.second) (λ s. P l i s)))

-- nothing is pending on any of them
pub record AreAtRest {D : Type 0} (told : D → Option Story) (disks : Disks D) : Type 0 where
  pub log : Tells (told disks.log) (λ h. IsAtRest h.now)
  pub image : Tells (told disks.image) (λ h. IsAtRest h.now)
  pub second : Tells (told disks.second) (λ h. IsAtRest h.now)

-- neither of a node's logs is there
abbrev pub AreUnformatted : {D : Type 0} → (D → Option Story) → Disks D → Type 0
AreUnformatted told disks = Tells (told disks.log) (λ l. Tells (told disks.second) (λ s. (mount_of l.now.seen ≡ mounts.Unformatted) × (mount_of s.now.seen ≡ mounts.Unformatted)))

-- the disks of a node, of which one has the current log
abbrev pub disks_from : {D : Type 0} → Which → D → D → D → Disks D
disks_from First current image other = record { log = current; image = image; second = other }
disks_from Second current image other = record { log = other; image = image; second = current }

abbrev pub disks_in : {D : Type 0} → Store D → Disks D
disks_in store = disks_from store.turns.which store.turns.log.disk store.patches.image.disk store.turns.other

-- where the disks are after a recovery
abbrev pub disks_of : {D : Type 0} → Result (Recovered D) (StoreFault × Disks D) → Disks D
disks_of (Ok (found.Fresh disks)) = disks
disks_of (Ok (found.Whole store state records)) = disks_in store
disks_of (Err fault) = fault.1

abbrev pub answer_of : {D : Type 0} → Result (Recovered D) (StoreFault × Disks D) → Result (Recovered D) StoreFault
answer_of (Ok recovered) = Ok recovered
answer_of (Err fault) = Err fault.0

-- what is answered is what the bytes stand for; only a fault of a disk and want of memory say nothing of them
abbrev pub Answers : {D : Type 0} → Result (Recovered D) StoreFault → Recovery → Type 0
Answers (Ok (found.Fresh disks)) recovery = recovery ≡ Fresh
Answers (Ok (found.Whole store state records)) recovery = recovery ≡ Whole state store.turns.objects.value
Answers (Err (faults.Damaged disk place)) recovery = IsRefusedAt recovery disk place
Answers (Err faults.Disk) recovery = Unit {0}
Answers (Err faults.Memory) recovery = Unit {0}

-- a log on this disk mounts as the store's, with its records
abbrev pub IsMounted : {D : Type 0} → Result (Recovered D) StoreFault → Which → List ℕ → Type 0
IsMounted (Ok (found.Whole store state records)) which bytes = (store.turns.which ≡ which) × (mount_of bytes ≡ mounts.Whole store.turns.log.header store.turns.log.base records)
IsMounted (Ok (found.Fresh disks)) which bytes = ⊥
IsMounted (Err fault) which bytes = Unit {0}

-- the records are those of the current log
abbrev pub Mounts : {D : Type 0} → Result (Recovered D) StoreFault → List ℕ → List ℕ → Type 0
Mounts (Ok (found.Whole store state records)) log second = mount_of (log_on store.turns.which log second) ≡ mounts.Whole store.turns.log.header store.turns.log.base records
Mounts (Ok (found.Fresh disks)) log second = Unit {0}
Mounts (Err fault) log second = Unit {0}

-- a store is over this log, with these records
abbrev pub IsOver : {D : Type 0} → Result (Recovered D) StoreFault → Which → Log D → List Record → Type 0
IsOver (Ok (found.Whole store state records)) which log items = (store.turns.which ≡ which) × (store.turns.log ≡ log) × (records ≡ items)
IsOver (Ok (found.Fresh disks)) which log items = ⊥
IsOver (Err fault) which log items = Unit {0}

-- the objects stand in these bytes, or the bytes break where that is answered
abbrev pub Stands : Result FramedHeap StoreFault → List ℕ → Type 0
Stands (Ok objects) heap = StandsFor heap objects.value
Stands (Err (faults.Damaged disk place)) heap = (disk ≡ 1) × BreaksAt heap place
Stands (Err faults.Disk) heap = Unit {0}
Stands (Err faults.Memory) heap = Unit {0}

-- a state is what was checked, or the item that was refused
abbrev pub IsChecked : Result (Numbers × State) StoreFault → Result State (ℕ × ℕ) → Type 0
IsChecked (Ok x) checked = checked ≡ Ok x.1
IsChecked (Err (faults.Damaged disk place)) checked = checked ≡ Err (disk, place)
IsChecked (Err faults.Memory) checked = Unit {0}
IsChecked (Err faults.Disk) checked = ⊥
