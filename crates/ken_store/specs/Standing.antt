-- A store as a whole: what its two sides stand for together.
use Rattle.std.specs.Prelude.{◌≡◌, ℕ, ◌+◌, ◌⊎◌, List, [], ◌∷◌, ◌++◌, length, replicate, Option, None, Result, Ok, Err, true, false}
use Rattle.ken_disk.specs.Moments.{MayLeave}
use Rattle.ken_disk.specs.Story.{Story, Tells, IsImage}
use Rattle.ken_model.specs.declared.states.State.{State}
use Rattle.ken_model.specs.declared.values.Value.{Value}
use Rattle.ken_record.specs.declared.effects.Effects.{Effects}
use Rattle.ken_record.specs.declared.page.Page.{Page}
use Rattle.ken_cover.specs.Sides.{ImagePages, handed_pages, recovered_image_pages}
use Rattle.ken_cover.specs.Covers.{Covers}
use Rattle.ken_store.specs.declared.disks.Disks.{Disks}
use Rattle.ken_store.specs.declared.owner.Owner.{Owner}
use Rattle.ken_store.specs.declared.store.Store.{Store}
use Rattle.ken_store.specs.declared.faults.StoreFault.{StoreFault}
use Rattle.ken_store.specs.declared.store.Recovered.{Recovered}
use Rattle.ken_store.specs.declared.store.Recovered.TheVariants as found
use Rattle.ken_store.specs.Answers.{TellsAll, AreAtRest, AreUnformatted}
use Rattle.ken_store.specs.declared.patching.Origin.TheVariants as origin
use Rattle.ken_store.specs.Ahead.{origins, page_origins, record_origins}
use Rattle.ken_store.specs.Patching.{Grows, HoldsImage, IsPatchSide, Patching}
use Rattle.ken_store.specs.PatchLaws.{IsAheadOf, LastChangedBefore}
use Rattle.ken_store.specs.Kept.{base_pages}
use Rattle.ken_store.specs.Numbers.{after_record}
use Rattle.ken_store.specs.Recovered.{Recovery, Whole, state_of, recovered}
use Rattle.ken_store.specs.Turning.{AreChangedPages, IsSealed, Turning, coming_record, turn_pages, state_in}

-- each image that a crash may leave of all disks together recovers so
abbrev pub RecoversTo : {D : Type 0} → (D → Option Story) → Owner → Disks D → Recovery → Type 0
RecoversTo told o disks recovery = TellsAll told disks (λ l i s. (log image second : List ℕ) → IsImage l.now log → IsImage i.now image → IsImage s.now second → recovered o log image second ≡ recovery)

-- what stands of a store: its handler's side takes calls, what stands of its patcher's does, and they are of one node
pub record IsStore {D : Type 0} (told : D → Option Story) (size : D → ℕ) (store : Store D) : Type 0 where
  pub turns : Turning told size store.turns
  pub patches : IsPatchSide told size store.patches
  pub count : store.patches.image.pages ≡ store.turns.owner.pages
  pub known : store.patches.known ≡ store.turns.numbers.turns

-- a store that takes calls: no call of its image's disk failed
pub record TakesCalls {D : Type 0} (told : D → Option Story) (size : D → ℕ) (whole : Store D) : Type 0 where
  pub store : IsStore told size whole
  pub unspent : whole.patches.image.spent ≡ false

-- the pages of a store's image, whether it takes calls or not: they are covered, what is to patch is behind the live
-- records, and no page changed in a turn to come
pub record Standing {D : Type 0} (told : D → Option Story) (size : D → ℕ) (store : Store D) (i : ImagePages) : Type 0 where
  pub takes : IsStore told size store
  pub patches : Patching told size store.patches i
  pub covers : Covers store.turns.owner.pages true (turn_pages store.turns) i
  pub behind : IsAheadOf (turn_pages store.turns) i
  pub before : LastChangedBefore (store.turns.numbers.turns + 1) (turn_pages store.turns)

-- a store that was recovered from an image without open pages: the live records are all to patch
abbrev pub StandsAgain : {D : Type 0} → (D → Option Story) → (D → ℕ) → Store D → Type 0
StandsAgain told size store =
    Tells (told store.patches.image.disk) (λ h. (i : ImagePages) → ((p : ℕ) → i.«open» p ≡ false) → HoldsImage store.turns.owner.pages i h.now → Standing told size store (recovered_image_pages (turn_pages store.turns).live i))

-- what a recovery found takes calls: a store of its owner, with no turn begun and its state; disks on which nothing was found may be
-- created on
pub record IsReadyStore {D : Type 0} (told : D → Option Story) (size : D → ℕ) (o : Owner) (store : Store D) (state : State) : Type 0 where
  pub takes : TakesCalls told size store
  pub owner : store.turns.owner ≡ o
  pub idle : store.turns.objects.begun ≡ None
  pub tells : state ≡ state_in store.turns
  pub again : StandsAgain told size store
  -- each page of its base counts as changed by the base's last turn
  pub counted : store.turns.base_turns.items ≡ replicate (length (base_pages store.turns.log.base)) store.turns.log.header.turns
  -- what is ahead begins with the base, exactly where that has pages
  pub ahead : origins store.patches.ahead.items ≡ page_origins origin.Base (base_pages store.turns.log.base) ++ record_origins store.turns.records.items

abbrev pub IsReady : {D : Type 0} → (D → Option Story) → (D → ℕ) → Owner → Result (Recovered D) StoreFault → Type 0
IsReady told size o (Ok (found.Whole store state records)) = IsReadyStore told size o store state
IsReady told size o (Ok (found.Fresh disks)) = AreAtRest told disks × AreUnformatted told disks
IsReady told size o (Err fault) = Unit {0}

-- whatever a crash at any moment between two states of a node's disks leaves recovers so. It speaks of calls that write one disk:
-- of the others only what they are now is left
abbrev pub RecoversMeanwhile : {D : Type 0} → (D → Option Story) → Owner → Disks D → Disks D → (Recovery → Type 0) → Type 0
RecoversMeanwhile told o old new P =
    TellsAll told old (λ l i s. TellsAll told new (λ l2 i2 s2. (log image second : List ℕ) → MayLeave l l2 log → MayLeave i i2 image → MayLeave s s2 second → P (recovered o log image second)))

abbrev pub is_one : Recovery → Recovery → Type 0
is_one a r = r ≡ a

abbrev pub is_either : Recovery → Recovery → Recovery → Type 0
is_either a b r = (r ≡ a) ⊎ (r ≡ b)

-- the state with the turn that is begun, over a heap of this value
abbrev pub sealed_recovery : {D : Type 0} → Effects → Store D → Value → Recovery
sealed_recovery e store v =
    Whole
    (state_of store.turns.owner.node (after_record store.turns.numbers (coming_record store.turns e)) store.turns.log.base (store.turns.records.items ++ coming_record store.turns e ∷ []))
    v

-- a turn was sealed, and its pages are handed over
pub record StandsSealed {D : Type 0} (told : D → Option Story) (size : D → ℕ) (e : Effects) (turn : ℕ) (old new : Store D) : Type 0 where
  pub pages : List Page
  pub sealed : IsSealed e old.turns turn pages new.turns
  pub changed : AreChangedPages (turn_pages old.turns).heap pages
  pub grows : Grows turn pages old.patches.ahead.items new.patches.ahead.items
  pub stands : (i : ImagePages) → Standing told size old i → Standing told size new (handed_pages turn pages i)
