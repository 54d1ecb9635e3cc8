-- The patcher's side, in the pages' words.
use Rattle.std.specs.Prelude.{◌≡◌, ℕ, ◌+◌, ◌*◌, ◌-◌, ◌≤◌, ◌⊎◌, List, [], ◌∷◌, ◌++◌, take, drop, Option, Result, Ok, Err, Bool, true, false}
use Rattle.std.specs.List.{AllByRecursion}
use Rattle.std.specs.declared.sync.Arc.{Arc}
use Rattle.std.specs.Arc.{arc_value}
use Rattle.ken_disk.specs.declared.faults.DiskFault.{DiskFault}
use Rattle.ken_disk.specs.declared.faults.DiskFault.TheVariants as disk
use Rattle.ken_disk.specs.Fates.{Fate, Suffers}
use Rattle.ken_disk.specs.Story.{DiskState, Story, IsImage, Tells}
use Rattle.ken_record.specs.declared.page.Page.{Page}
use Rattle.ken_cover.specs.declared.layers.Change.{Change}
use Rattle.ken_cover.specs.declared.layers.Layer.{Layer}
use Rattle.ken_cover.specs.Overlay.{AreWithin}
use Rattle.ken_cover.specs.Sides.{ImagePages, IsPatch, pages_of, patched_page, synced_pages}
use Rattle.ken_cover.specs.Covers.{IsPossible}
use Rattle.ken_image.specs.Calls.{Call, Write}
use Rattle.ken_image.specs.Pages.{place_of}
use Rattle.ken_image.specs.Whole.{HasAllPages}
use Rattle.ken_store.specs.declared.faults.StoreFault.{StoreFault}
use Rattle.ken_store.specs.declared.faults.StoreFault.TheVariants as faults
use Rattle.ken_store.specs.declared.patching.Ahead.{Ahead}
use Rattle.ken_store.specs.declared.patching.Origin.{Origin}
use Rattle.ken_store.specs.declared.patching.Origin.TheVariants.{Base, Record}
use Rattle.ken_store.specs.declared.patching.PatchSide.{PatchSide}
pub use Rattle.ken_store.specs.Ahead.{IsRecordAhead, FollowOneBase, IsToPatch}
use Rattle.ken_store.specs.Ahead.{frame_pages, ahead_layers}

-- a disk holds an image of n pages: a read gives it, and a crash leaves what is possible of it
pub record HoldsImage (n : ℕ) (i : ImagePages) (s : DiskState) : Type 0 where
  pub seen : take (256 * n) s.seen ≡ i.image
  pub left : (image : List ℕ) → IsImage s image → IsPossible i (take (256 * n) image)

-- the disk of a side does
abbrev pub Holds : {D : Type 0} → (D → Option Story) → PatchSide D → ImagePages → Type 0
Holds told side i = Tells (told side.image.disk) (λ h. HoldsImage side.image.pages i h.now)

-- turns rise from a least one on, and none is past the last one
abbrev pub RiseWithin : ℕ → ℕ → List Ahead → Type 0
RiseWithin least last [] = Unit {0}
RiseWithin least last (a ∷ rest) = (least ≤ a.turn) × (a.turn ≤ last) × RiseWithin (a.turn + 1) last rest

-- what is ahead is in order
pub record IsInOrder (last : ℕ) (items : List Ahead) : Type 0 where
  pub rising : RiseWithin 0 last items
  pub base : FollowOneBase items
  pub each : AllByRecursion IsToPatch items

-- what stands of a side: its image has all its pages, and what is ahead is in order
pub record IsPatchSide {D : Type 0} (told : D → Option Story) (size : D → ℕ) (side : PatchSide D) : Type 0 where
  pub image : HasAllPages told size side.image
  pub order : IsInOrder side.known side.ahead.items
  pub within : AreWithin side.image.pages (pages_of (ahead_layers side.ahead.items))

-- a side that takes calls: no call of its image's disk failed
pub record TakesPatches {D : Type 0} (told : D → Option Story) (size : D → ℕ) (patches : PatchSide D) : Type 0 where
  pub side : IsPatchSide told size patches
  pub unspent : patches.image.spent ≡ false

-- the pages that a side stands for, whether it takes calls or not
pub record Patching {D : Type 0} (told : D → Option Story) (size : D → ℕ) (side : PatchSide D) (i : ImagePages) : Type 0 where
  pub takes : IsPatchSide told size side
  pub ahead : ahead_layers side.ahead.items ≡ i.ahead
  pub holds : Holds told side i

-- the next page of the oldest record to patch was written
pub record Patched (i i2 : ImagePages) : Type 0 where
  pub page : ℕ
  pub first : Layer
  pub rest : List Layer
  pub change : Change
  pub next : IsPatch i page first rest change
  pub is : i2 ≡ patched_page first rest change i

-- what a crash may leave: of the image before, or with the next page written
abbrev pub MayBePatched : ImagePages → List ℕ → Type 0
MayBePatched i image = IsPossible i image ⊎ ((i2 : ImagePages) × (Patched i i2 × IsPossible i2 image))

-- by the answer of a patch, and by what its disk tells then: true where a page was written, and false where none is to be. A write
-- that failed counts as written: where the disk tells, the side stands for it
abbrev pub PatchesBy : Option Story → Result Bool StoreFault → (ImagePages → Type 0) → ImagePages → Type 0
PatchesBy told (Ok true) stands i = (i2 : ImagePages) × (Patched i i2 × stands i2)
PatchesBy told (Ok false) stands i = (i.ahead ≡ []) × stands i
PatchesBy told (Err faults.Disk) stands i = (i2 : ImagePages) × (Patched i i2 × Tells told (λ h. stands i2))
PatchesBy told (Err faults.Memory) stands i = stands i
PatchesBy told (Err (faults.Damaged disk place)) stands i = ⊥

-- the write of the first of some pages
abbrev pub page_calls : {Z : Type 0} → List (ℕ × Arc (List ℕ) Z) → List Call
page_calls [] = []
page_calls (e ∷ es) = Write (place_of e.0) (arc_value e.1) ∷ []

abbrev pub first_number : {Z : Type 0} → List (ℕ × Arc (List ℕ) Z) → ℕ
first_number [] = 0
first_number (e ∷ es) = e.0

-- the call that a patch makes
abbrev pub patch_calls : List Ahead → List Call
patch_calls [] = []
patch_calls (a ∷ rest) = page_calls a.pages.items

-- the answer of the one disk that is called
abbrev pub disk_answer : {T : Type 0} → Result T StoreFault → Result T DiskFault
disk_answer (Ok x) = Ok x
disk_answer (Err faults.Disk) = Err disk.Failed
disk_answer (Err faults.Memory) = Err disk.Memory
disk_answer (Err (faults.Damaged d place)) = Err disk.Memory

-- a fault of a call; that a disk is damaged only a recovery says
abbrev pub IsFaultOfCall : StoreFault → Type 0
IsFaultOfCall faults.Disk = Unit {0}
IsFaultOfCall faults.Memory = Unit {0}
IsFaultOfCall (faults.Damaged d place) = ⊥

-- the fate of the disk before and after a patch: where no page is to be written, it isn't called
abbrev pub PatchSuffers : Result Bool StoreFault → Fate → Fate → Type 0
PatchSuffers (Ok true) old new = Suffers (Ok true) old new
PatchSuffers (Ok false) old new = new ≡ old
PatchSuffers (Err fault) old new = Suffers {T = Bool} (disk_answer (Err fault)) old new

abbrev pub origin_before : Origin → ℕ → ℕ
origin_before Base turn = 0
origin_before Record turn = turn - 1

-- by the answer of a sync, and by what its disk tells then: Ok makes all that was written safe. One that failed made nothing safe:
-- where the disk tells, the side stands as before
abbrev pub SettlesBy : {T : Type 0} → Option Story → Result T StoreFault → (ImagePages → Type 0) → ImagePages → Type 0
SettlesBy told (Ok x) stands i = stands (synced_pages i)
SettlesBy told (Err faults.Disk) stands i = Tells told (λ h. stands i)
SettlesBy told (Err faults.Memory) stands i = stands i
SettlesBy told (Err (faults.Damaged disk place)) stands i = ⊥

-- the turn that is told as settled: the last one before what is to patch, and none where that is a base
abbrev pub settled_before : Ahead → ℕ
settled_before a = origin_before a.origin a.turn

abbrev pub settled_turn : ℕ → List Ahead → ℕ
settled_turn known [] = known
settled_turn known (a ∷ rest) = settled_before a

-- what is ahead once the first page of it counts as written
pub record IsLessOnePage (old new : Ahead) : Type 0 where
  pub turn : new.turn ≡ old.turn
  pub origin : new.origin ≡ old.origin
  pub pages : new.pages.items ≡ drop 1 old.pages.items

abbrev pub Leaves : {Z : Type 0} → Ahead → List Ahead → List (ℕ × Arc (List ℕ) Z) → List Ahead → Type 0
Leaves a rest [] new = new ≡ rest
Leaves a rest (e ∷ es) new = (b : Ahead) × IsLessOnePage a b × (new ≡ b ∷ rest)

abbrev pub GoesOn : List Ahead → List Ahead → Type 0
GoesOn [] new = new ≡ []
GoesOn (a ∷ rest) new = Leaves a rest (drop 1 a.pages.items) new

-- by the answer of a patch: a write that failed counts as written
abbrev pub GoesOnBy : Result Bool StoreFault → List Ahead → List Ahead → Type 0
GoesOnBy (Ok true) old new = GoesOn old new
GoesOnBy (Ok false) old new = new ≡ old
GoesOnBy (Err faults.Disk) old new = GoesOn old new
GoesOnBy (Err faults.Memory) old new = new ≡ old
GoesOnBy (Err (faults.Damaged disk place)) old new = ⊥

-- what is ahead, and the last turn that is known, are as before
pub record KeepsAhead {D : Type 0} (old new : PatchSide D) : Type 0 where
  pub items : new.ahead.items ≡ old.ahead.items
  pub known : new.known ≡ old.known

-- a record's pages are to patch after all others; one without pages adds nothing
pub record IsRecordOf (turn : ℕ) (pages : List Page) (a : Ahead) : Type 0 where
  pub turn_is : a.turn ≡ turn
  pub origin : a.origin ≡ Record
  pub pages_are : frame_pages a.pages.items ≡ pages

abbrev pub Grows : ℕ → List Page → List Ahead → List Ahead → Type 0
Grows turn [] old new = new ≡ old
Grows turn (e ∷ es) old new = (a : Ahead) × IsRecordOf turn (e ∷ es) a × (new ≡ old ++ a ∷ [])
