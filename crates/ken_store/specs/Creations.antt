-- A store is created: the image first, and then the log, whose gate is the moment of creation.
use Rattle.std.specs.Prelude.{◌≡◌, ℕ, ◌+◌, ◌*◌, ◌≤◌, ◌⊎◌, List, [], length, take, Option, None, Result, Ok, Err, OnOk, IfErr, IsErrOf, IsSome}
use Rattle.ken_disk.specs.declared.faults.DiskFault.TheVariants as disk
use Rattle.ken_disk.specs.Causes.{HasCause}
use Rattle.ken_disk.specs.Fates.{Fate, Suffers}
use Rattle.ken_disk.specs.Moments.{MayLeave, Through}
use Rattle.ken_disk.specs.Story.{Story, Follows, IsImage, Leaves}
use Rattle.ken_model.specs.Layout.{first_heap}
use Rattle.ken_model.specs.Network.{empty_heap}
use Rattle.ken_record.specs.declared.header.Header.{Header}
use Rattle.ken_image.specs.Calls.{Call, Called}
use Rattle.ken_image.specs.Pages.{format_calls}
use Rattle.ken_log.specs.Calls.{MadeAfterRead, log_writes}
use Rattle.ken_log.specs.Mounts.{mount_of}
use Rattle.ken_log.specs.Mounts as mounts
use Rattle.ken_log.specs.Seals.{HasLogCause, MountsAs, MountsAsEither, as_disk}
use Rattle.ken_store.specs.declared.owner.Owner.{Owner}
use Rattle.ken_store.specs.declared.disks.Disks.{Disks}
use Rattle.ken_store.specs.declared.faults.StoreFault.{StoreFault}
use Rattle.ken_store.specs.declared.faults.StoreFault.TheVariants as store
use Rattle.ken_store.specs.declared.store.Store.{Store}
use Rattle.ken_store.specs.declared.disks.Which.TheVariants.{First}
use Rattle.ken_store.specs.declared.turning.TurnSide.{TurnSide}
use Rattle.ken_store.specs.Numbers.{no_numbers}
use Rattle.ken_store.specs.Recovered.{Recovery, Fresh, Whole, state_of, recovered}
use Rattle.ken_store.specs.Answers.{disks_in}
use Rattle.ken_store.specs.Patching.{disk_answer}
use Rattle.ken_store.specs.Turning.{log_answer}

-- the header of a node's first log
abbrev pub first_header : Owner → Header
first_header o = record { node = o.node; nodes = o.nodes; pages = o.pages; generation = 1; turns = 0; base_len = 0 }

-- the side of a node that made no turn, over its first log
pub record IsNew {D : Type 0} (o : Owner) (side : TurnSide D) : Type 0 where
  pub owner : side.owner ≡ o
  pub numbers : side.numbers ≡ no_numbers
  pub head : side.log.header ≡ first_header o
  pub base : side.log.base ≡ None
  pub records : side.records.items ≡ []
  pub ends : side.log.end ≡ 32
  pub which : side.which ≡ First

-- what a new store recovers to: no turn was made, and the heap has no block
abbrev pub created : Owner → Recovery
created o = Whole (state_of o.node no_numbers None []) (empty_heap (256 * o.pages))

-- an image begins with the first heap
pub record HoldsFirst (pages : ℕ) (image : List ℕ) : Type 0 where
  pub long : 256 * pages ≤ length image
  pub holds : take (256 * pages) image ≡ first_heap pages

abbrev pub FreshOrCreated : Owner → Recovery → Type 0
FreshOrCreated o recovery = (recovery ≡ Fresh) ⊎ (recovery ≡ created o)

-- of the stories of the log, the image and the second log before, and of the first two after
pub record Creates {T : Type 0} (o : Owner) (result : Result T StoreFault) (log image second log2 image2 : Story) : Type 0 where
  -- while the log is as it was, nothing is found, whatever the image's disk holds
  pub before : (l i s : List ℕ) → IsImage log.now l → IsImage second.now s → recovered o l i s ≡ Fresh
  -- the log is touched only when the image is made, and safe
  pub order : (log2 ≡ log) ⊎ Leaves (HoldsFirst o.pages) image2.now
  -- at any moment a crash leaves no log, or the first one of the node with no record
  pub logs : Through (MountsAsEither mounts.Unformatted (mounts.Whole (first_header o) None [])) log log2
  -- from then on a crash at any moment leaves disks on which nothing is found, or the new store
  pub any_moment : (l i s : List ℕ) → MayLeave log log2 l → IsImage image2.now i → IsImage second.now s → FreshOrCreated o (recovered o l i s)
  -- after Memory it leaves no log
  pub memory : IfErr result (λ fault. fault ≡ store.Memory → Leaves (MountsAs mounts.Unformatted) log2.now)
  -- and after Ok the new store
  pub ok : OnOk result ((l i s : List ℕ) → IsImage log2.now l → IsImage image2.now i → IsImage second.now s → recovered o l i s ≡ created o)

-- a format of a node's first log, by the answer: which of its calls were made; and where it is in doubt what a crash leaves, all of
-- its syncs but the last have answered Ok
pub record Formats {T : Type 0} (o : Owner) (result : Result T StoreFault) (old new : Story) : Type 0 where
  pub calls : MadeAfterRead (as_disk (log_answer result)) (log_writes (first_header o) None old.now.seen) old new
  pub in_doubt : IsErrOf result store.Disk → Through (MountsAsEither (mount_of old.now.seen) mounts.Unformatted) old new ⊎ (new.now.syncs + 1 ≡ old.now.syncs + 3)

-- the log's disk saw a format; after an error perhaps no call
abbrev pub MayFormat : {T : Type 0} → Owner → Result T StoreFault → Story → Story → Type 0
MayFormat o (Ok x) old new = Formats o (Ok x) old new
MayFormat {T} o (Err fault) old new = (new ≡ old) ⊎ Formats {T = T} o (Err fault) old new

-- the calls that make an image of the first heap
abbrev pub image_calls : Owner → List Call
image_calls o = format_calls o.pages (take 256 (first_heap o.pages))

module _ {D T : Type 0} (told : D → Option Story) (faults : D → ℕ) (o : Owner) (result : Result T StoreFault) where
  -- a log's disk is as it was
  abbrev pub IsUncalled : D → D → Type 0
  IsUncalled old new = (told new ≡ told old) × (faults new ≡ faults old)

  -- it saw a format, and a fault that is answered is one of its own
  abbrev pub FormatsLog : D → D → Type 0
  FormatsLog old new = Follows (MayFormat o result) (told old) (told new) × HasLogCause (faults old) (faults new) (log_answer result)

  abbrev pub CallsLog : D → D → Type 0
  CallsLog old new = IsUncalled old new ⊎ FormatsLog old new

  -- the image's disk saw the calls of a format, and no others: by the answer, where the log is as it was; and all of them, where the
  -- log saw its own
  abbrev pub CallsImage : Disks D → Disks D → Type 0
  CallsImage old new =
      (IsUncalled old.log new.log × Follows (Called (disk_answer result) (image_calls o)) (told old.image) (told new.image))
      ⊎ (FormatsLog old.log new.log × Follows (Called {T = Unit {0}} (Ok tt) (image_calls o)) (told old.image) (told new.image))

-- what told what it holds tells it still
abbrev pub TellsStill : Option Story → Option Story → Type 0
TellsStill old new = IsSome old → IsSome new

-- where the disks are after a creation
abbrev pub made_disks : {D : Type 0} → Result (Store D) (StoreFault × Disks D) → Disks D
made_disks (Ok store) = disks_in store
made_disks (Err fault) = fault.1

abbrev pub made_answer : {D : Type 0} → Result (Store D) (StoreFault × Disks D) → Result (Store D) StoreFault
made_answer (Ok store) = Ok store
made_answer (Err fault) = Err fault.0

module _ {D : Type 0} (faults : D → ℕ) (fate : D → Option Fate) where
  -- no call of a disk failed, and one did
  pub record IsUnfailed (old new : D) : Type 0 where
    pub count : faults new ≡ faults old
    pub falls : fate new ≡ fate old

  pub record HasFailed (old new : D) : Type 0 where
    pub count : HasCause {T = Unit {0}} (faults old) (faults new) (Err disk.Failed)
    pub falls : Follows (Suffers {T = Unit {0}} (Err disk.Failed)) (fate old) (fate new)

  -- by the answer of what wrote the log and the image
  abbrev pub FailsBy : {T : Type 0} → Result T StoreFault → Disks D → Disks D → Type 0
  FailsBy (Err store.Disk) old new = (HasFailed old.log new.log × IsUnfailed old.image new.image) ⊎ (IsUnfailed old.log new.log × HasFailed old.image new.image)
  FailsBy (Err store.Memory) old new = IsUnfailed old.log new.log × IsUnfailed old.image new.image
  FailsBy (Err (store.Damaged n place)) old new = ⊥
  FailsBy (Ok x) old new = IsUnfailed old.log new.log × IsUnfailed old.image new.image
