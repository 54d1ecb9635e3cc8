-- What a node's patcher does.
use Rattle.std.specs.Prelude.{◌≡◌, ◌≢◌, ℕ, ◌+◌, ◌*◌, ◌≤◌, ◌↔◌, ◌<◌, Option, OnErr, List, [], ◌∷◌, ◌++◌, length, map, take, Bool, true, Result, Ok, IfOk, OnOk, IsErrOf, IsTrue}
use Rattle.ken_disk.specs.Causes.{HasCause}
use Rattle.ken_disk.specs.Fates.{Fate, Suffers}
use Rattle.ken_disk.specs.Moments.{Through}
use Rattle.ken_disk.specs.Story.{Story, Tells, Follows}
use Rattle.ken_record.specs.declared.page.Page.{Page}
use Rattle.ken_cover.specs.Covers.{IsPossible, MayLeaveOut}
use Rattle.ken_cover.specs.Overlay.{AreWithin}
use Rattle.ken_cover.specs.Sides.{ImagePages, TurnPages, synced_pages}
use Rattle.ken_image.specs.Calls.{Sync, Called}
use Rattle.ken_links.specs.Rings.{pushed, free, popped, known, nones, SamePushEnd, SamePopEnd}
use Rattle.ken_store.specs.declared.faults.StoreFault.{StoreFault}
use Rattle.ken_store.specs.declared.faults.StoreFault.TheVariants.{Disk, Memory}
use Rattle.ken_store.specs.declared.patching.PatchSide.{PatchSide}
use Rattle.ken_store.specs.Ahead.{frame_pages}
use Rattle.ken_store.specs.Apart.{hand_all, known_after}
use Rattle.ken_store.specs.PatchLaws.{IsAheadOf}
use Rattle.ken_store.specs.Patching.{GoesOnBy, IsPatchSide, MayBePatched, PatchSuffers, Patching, PatchesBy, SettlesBy, TakesPatches, disk_answer, patch_calls, settled_turn}
use Rattle.ken_ship.specs.Handing.{GaveAll}
use Rattle.ken_work.specs.declared.items.Frozen.{Frozen}
use Rattle.ken_work.specs.declared.items.Settled.{Settled}
use Rattle.ken_work.specs.declared.patcher.PatchWorker.{PatchWorker}
use Rattle.ken_work.specs.Making.{frozen_pages_of}

-- with the same ends of the same rings
pub record IsSamePatcher {D : Type 0} (a b : PatchWorker D) : Type 0 where
  pub pages : SamePopEnd a.pages b.pages
  pub settled : SamePushEnd a.settled b.settled

-- sealed turns with their pages
abbrev pub waits_of : List Frozen → List (ℕ × List Page)
waits_of fs = map frozen_pages_of fs

-- they may be handed one after another: turns rise from the last known one on, and the pages lie in a heap of so many
abbrev pub MayFollow : ℕ → ℕ → List Frozen → Type 0
MayFollow count known [] = Unit {0}
MayFollow count known (f ∷ fs) = (known < f.turn) × AreWithin count (frame_pages f.pages.items) × MayFollow count f.turn fs

-- these were handed to the patcher's side, where they may be: they are to patch after all before. Nothing happens to the image
pub record IsHandedOver {D : Type 0} (told : D → Option Story) (size : D → ℕ) (turns : List Frozen) (old new : PatchSide D) : Type 0 where
  pub takes : TakesPatches told size old → TakesPatches told size new
  pub image : new.image ≡ old.image
  pub stands : MayFollow old.image.pages old.known turns → (i : ImagePages) → Patching told size old i → Patching told size new (hand_all (waits_of turns) i)
  pub known : MayFollow old.image.pages old.known turns → new.known ≡ known_after old.known (waits_of turns)

-- the ring gave turns until the count of its pops that gave none rose, or 64 were given; they were handed over
pub record TakesOver {D : Type 0} (told : D → Option Story) (size : D → ℕ) (old mid : PatchWorker D) : Type 0 where
  pub turns : List Frozen
  pub popped_are : popped mid.pages ≡ popped old.pages ++ turns
  pub most : length turns ≤ 64
  pub until : GaveAll {T = Unit {0}} {E = Unit {0}} (Ok tt) (length turns) (nones old.pages) (nones mid.pages)
  pub handed : IsHandedOver told size turns old.side mid.side
  pub settled : mid.settled ≡ old.settled

-- turns left the ring, however many, and were handed over
pub record Received {D : Type 0} (told : D → Option Story) (size : D → ℕ) (old new : PatchWorker D) : Type 0 where
  pub turns : List Frozen
  pub popped_are : popped new.pages ≡ popped old.pages ++ turns
  pub handed : IsHandedOver told size turns old.side new.side

-- no turn left the ring, and nothing was handed over
pub record TakesNone {D : Type 0} (told : D → Option Story) (size : D → ℕ) (old new : PatchWorker D) : Type 0 where
  pub pages : new.pages ≡ old.pages
  pub settled : new.settled ≡ old.settled
  pub handed : IsHandedOver told size [] old.side new.side

-- what a patcher tells after a sync: the settled turn, with the last turn that it knows
abbrev pub settled_of : {D : Type 0} → PatchSide D → Settled
settled_of side = record { by = side.known; turn = settled_turn side.known side.ahead.items }

module _ {D : Type 0} (told : D → Option Story) (size count : D → ℕ) (fate : D → Option Fate) where
  -- the next page of the oldest record to patch was written, or none is to be, by the answer
  pub record Patches (result : Result Bool StoreFault) (old new : PatchSide D) : Type 0 where
    pub stands : (i : ImagePages) → Patching told size old i → PatchesBy (told new.image.disk) result (Patching told size new) i
    pub any_moment : (i : ImagePages) → Patching told size old i → Follows (λ h s. Through (λ image. MayBePatched i (take (256 * old.image.pages) image)) h s) (told old.image.disk) (told new.image.disk)
    pub calls : Follows (Called (disk_answer result) (patch_calls old.ahead.items)) (told old.image.disk) (told new.image.disk)
    pub more : IfOk result (λ more. IsTrue more ↔ (old.ahead.items ≢ []))
    pub takes : OnOk result (TakesPatches told size new)
    pub goes_on : IsErrOf result Memory → TakesPatches told size new
    pub fails : OnErr result (Tells (told new.image.disk) (λ h. IsPatchSide told size new))
    pub spent : IsErrOf result Disk → new.image.spent ≡ true
    pub ahead : GoesOnBy result old.ahead.items new.ahead.items
    pub known : new.known ≡ old.known
    pub pages : new.image.pages ≡ old.image.pages
    pub cause : HasCause (count old.image.disk) (count new.image.disk) (disk_answer result)
    pub fate_of : Follows (PatchSuffers result) (fate old.image.disk) (fate new.image.disk)

  -- a call: sealed turns are taken from the ring, and a page is written; or there was no memory to take them
  pub data PatchesOnce (result : Result Bool StoreFault) (old new : PatchWorker D) : Type 0 where
    went : (mid : PatchWorker D) → TakesOver told size old mid → new ≡ record mid { side = new.side } → Patches result mid.side new.side → PatchesOnce result old new
    no_room : IsErrOf result Memory → TakesNone told size old new → PatchesOnce result old new

  -- the image was synced, and the settled turn told, by the answer
  pub record SettlesOnce {T : Type 0} (result : Result T StoreFault) (old new : PatchWorker D) : Type 0 where
    pub pages : new.pages ≡ old.pages
    pub stands : (i : ImagePages) → Patching told size old.side i → SettlesBy (told new.side.image.disk) result (Patching told size new.side) i
    pub clean : (i : ImagePages) (t : TurnPages) → Patching told size old.side i → IsAheadOf t i → OnOk result (MayLeaveOut (settled_turn old.side.known old.side.ahead.items) t (synced_pages i))
    pub any_moment : (i : ImagePages) → Patching told size old.side i → Follows (λ h s. Through (λ image. IsPossible i (take (256 * old.side.image.pages) image)) h s) (told old.side.image.disk) (told new.side.image.disk)
    pub calls : Follows (Called (disk_answer result) (Sync ∷ [])) (told old.side.image.disk) (told new.side.image.disk)
    pub takes : OnOk result (TakesPatches told size new.side)
    pub goes_on : IsErrOf result Memory → TakesPatches told size new.side
    pub fails : OnErr result (Tells (told new.side.image.disk) (λ h. IsPatchSide told size new.side))
    pub spent : IsErrOf result Disk → new.side.image.spent ≡ true
    pub ahead : new.side.ahead ≡ old.side.ahead
    pub known : new.side.known ≡ old.side.known
    pub count_is : new.side.image.pages ≡ old.side.image.pages
    pub cause : HasCause (count old.side.image.disk) (count new.side.image.disk) (disk_answer result)
    pub fate_of : Follows (Suffers (disk_answer result)) (fate old.side.image.disk) (fate new.side.image.disk)
    pub tells : OnOk result (pushed new.settled ≡ pushed old.settled ++ settled_of old.side ∷ [])
    pub slot : OnOk result (free old.settled ≡ free new.settled + 1)
    pub untold : OnErr result (new.settled ≡ old.settled)
