-- The two sides of a store while they are apart, with sealed records on their way from the handler to the patcher.
use Rattle.std.specs.Prelude.{◌≡◌, ℕ, ◌+◌, ◌*◌, ◌<◌, ◌≤◌, List, [], ◌∷◌, ◌++◌, take, Option, Some, None, Result, true, IsTrue, IsSome, OnOk, OnErr}
use Rattle.ken_disk.specs.Moments.{Through}
use Rattle.ken_disk.specs.Story.{Story, Follows}
use Rattle.ken_model.specs.declared.values.Value.{Value}
use Rattle.ken_model.specs.Reading.{read_value}
use Rattle.ken_alloc.specs.Objects.{FramedHeap, heap_in}
use Rattle.ken_record.specs.declared.effects.Effects.{Effects}
use Rattle.ken_record.specs.declared.page.Page.{Page}
use Rattle.ken_record.specs.Grammar.{IsRecord, rise_from, page_rank}
use Rattle.ken_record.specs.Versions.{One}
use Rattle.ken_log.specs.Formats.{Replaces, next_header}
use Rattle.ken_log.specs.Mounts.{mount_of, with_record}
use Rattle.ken_log.specs.Mounts as mounts
use Rattle.ken_log.specs.Seals.{MountsAs, MountsAsEither}
use Rattle.ken_cover.specs.Sides.{ImagePages, handed_pages, synced_pages, turned_pages}
use Rattle.ken_cover.specs.Overlay.{AreWithin}
use Rattle.ken_cover.specs.Covers.{IsPossible, Covers, MayLeaveOut}
use Rattle.ken_store.specs.declared.disks.Disks.{Disks}
use Rattle.ken_store.specs.declared.faults.StoreFault.{StoreFault}
use Rattle.ken_store.specs.declared.patching.PatchSide.{PatchSide}
use Rattle.ken_store.specs.declared.store.Store.{Store}
use Rattle.ken_store.specs.declared.turning.TurnSide.{TurnSide}
use Rattle.ken_store.specs.Answers.{disks_from}
use Rattle.ken_store.specs.Patching.{MayBePatched, Patched, Patching, settled_turn}
use Rattle.ken_store.specs.PatchLaws.{IsAheadOf, LastChangedBefore}
use Rattle.ken_store.specs.Numbers.{follows, after_record}
use Rattle.ken_store.specs.Recovered.{Recovery, Whole, state_of}
use Rattle.ken_store.specs.Standing.{RecoversTo, RecoversMeanwhile, Standing, is_one, is_either}
use Rattle.ken_store.specs.Turning.{AreChangedPages, IsSameNode, IsSealed, KeepsLog, Turning, begun_on, coming_record, log_answer, record_of, turn_pages, state_in, undone}
use Rattle.ken_store.specs.Turnovers.{IsTurned, IsUnturned, base_of, kept_disk, replaced_disk, without_told}

-- records that were sealed and aren't handed yet, oldest first, each a turn with its pages: the image's pages once they are handed
abbrev pub hand_all : List (ℕ × List Page) → ImagePages → ImagePages
hand_all [] i = i
hand_all (x ∷ xs) i = hand_all xs (handed_pages x.0 x.1 i)

-- and the last turn that is known then
abbrev pub known_after : ℕ → List (ℕ × List Page) → ℕ
known_after known [] = known
known_after known (x ∷ xs) = known_after x.0 xs

-- the turns of these records rise from the last known one on, and the pages of each rise
abbrev pub MayWait : ℕ → List (ℕ × List Page) → Type 0
MayWait known [] = Unit {0}
MayWait known (x ∷ xs) = (known < x.0) × IsTrue (rise_from page_rank 0 x.1) × MayWait x.0 xs

-- the two sides of one store, where these records wait to be handed: once they are, the image's pages are covered, and behind the
-- live records
pub record Apart {D : Type 0} (told : D → Option Story) (size : D → ℕ) (handler : TurnSide D) (patcher : PatchSide D) (waiting : List (ℕ × List Page)) (i : ImagePages) : Type 0 where
  pub turns : Turning told size handler
  pub patches : Patching told size patcher i
  pub count : patcher.image.pages ≡ handler.owner.pages
  pub waits : MayWait patcher.known waiting
  pub known : known_after patcher.known waiting ≡ handler.numbers.turns
  pub covers : Covers handler.owner.pages true (turn_pages handler) (hand_all waiting i)
  pub behind : IsAheadOf (turn_pages handler) (hand_all waiting i)
  pub before : LastChangedBefore (handler.numbers.turns + 1) (turn_pages handler)

-- the disks of both sides
abbrev pub disks_apart : {D : Type 0} → TurnSide D → PatchSide D → Disks D
disks_apart handler patcher = disks_from handler.which handler.log.disk patcher.image.disk handler.other

-- what a log tells with the turn that is begun, over a heap of this value
abbrev pub sealed_state : {D : Type 0} → Effects → TurnSide D → Value → Recovery
sealed_state e handler v = Whole (state_of handler.owner.node (after_record handler.numbers (coming_record handler e)) handler.log.base (handler.records.items ++ coming_record handler e ∷ [])) v

-- ---- what a call of one side does keeps the two together

-- what the handing of a record asks of the patcher's side
pub record MayHand {D : Type 0} (patcher : PatchSide D) (turn : ℕ) (pages : List Page) : Type 0 where
  pub later : patcher.known < turn
  pub within : AreWithin patcher.image.pages pages
  pub rising : IsTrue (rise_from page_rank 0 pages)

module _ {D : Type 0} (told : D → Option Story) (size : D → ℕ) where
  -- a turn is begun
  abbrev pub BeginKeepsApart : Type 0
  BeginKeepsApart =
      (handler new : TurnSide D) (patcher : PatchSide D) (waiting : List (ℕ × List Page)) (i : ImagePages) → Apart told size handler patcher waiting i
      → Turning told size new → handler.objects.begun ≡ None → heap_in new.objects ≡ begun_on (heap_in handler.objects) → KeepsLog handler new → Apart told size new patcher waiting i

  -- it works on the heap
  abbrev pub WorkKeepsApart : Type 0
  WorkKeepsApart =
      (handler : TurnSide D) (patcher : PatchSide D) (waiting : List (ℕ × List Page)) (i : ImagePages) (heap : FramedHeap) → Apart told size handler patcher waiting i
      → Turning told size (record handler { objects = heap }) → IsSome handler.objects.begun → heap.begun ≡ handler.objects.begun → Apart told size (record handler { objects = heap }) patcher waiting i

  -- it is taken back
  abbrev pub AbortKeepsApart : Type 0
  AbortKeepsApart =
      (handler new : TurnSide D) (patcher : PatchSide D) (waiting : List (ℕ × List Page)) (i : ImagePages) → Apart told size handler patcher waiting i
      → Turning told size new → heap_in new.objects ≡ undone (heap_in handler.objects) → KeepsLog handler new → Apart told size new patcher waiting i

  -- the pages are as they were, as after a seal that ran out of memory
  abbrev pub TurnKeepsApart : Type 0
  TurnKeepsApart =
      (handler new : TurnSide D) (patcher : PatchSide D) (waiting : List (ℕ × List Page)) (i : ImagePages) → Apart told size handler patcher waiting i
      → Turning told size new → turn_pages new ≡ turn_pages handler → new.owner ≡ handler.owner → new.numbers ≡ handler.numbers → Apart told size new patcher waiting i

  -- a turn is sealed, and its record waits
  abbrev pub SealKeepsApart : Type 0
  SealKeepsApart =
      (handler new : TurnSide D) (patcher : PatchSide D) (waiting : List (ℕ × List Page)) (i : ImagePages) (e : Effects) (turn : ℕ) (pages : List Page) → Apart told size handler patcher waiting i
      → Turning told size new → IsSealed e handler turn pages new → AreChangedPages (turn_pages handler).heap pages → new.owner ≡ handler.owner → Apart told size new patcher (waiting ++ (turn, pages) ∷ []) i

  -- a base took the place of the live records
  abbrev pub TurnoverKeepsApart : Type 0
  TurnoverKeepsApart =
      (handler new : TurnSide D) (patcher : PatchSide D) (waiting : List (ℕ × List Page)) (i : ImagePages) (settled : ℕ) → Apart told size handler patcher waiting i → MayLeaveOut settled (turn_pages handler) (hand_all waiting i)
      → Turning told size new → turn_pages new ≡ turned_pages handler.owner.pages settled handler.numbers.turns (turn_pages handler) → new.owner ≡ handler.owner → new.numbers ≡ handler.numbers → Apart told size new patcher waiting i

  -- the first record that waits may be handed
  abbrev pub WaitingMayBeHanded : Type 0
  WaitingMayBeHanded = (handler : TurnSide D) (patcher : PatchSide D) (turn : ℕ) (pages : List Page) (waiting : List (ℕ × List Page)) (i : ImagePages) → Apart told size handler patcher ((turn, pages) ∷ waiting) i → MayHand patcher turn pages

  -- and is handed
  abbrev pub HandKeepsApart : Type 0
  HandKeepsApart =
      (handler : TurnSide D) (patcher new : PatchSide D) (turn : ℕ) (pages : List Page) (waiting : List (ℕ × List Page)) (i : ImagePages) → Apart told size handler patcher ((turn, pages) ∷ waiting) i
      → Patching told size new (handed_pages turn pages i) → new.image.pages ≡ patcher.image.pages → new.known ≡ turn → Apart told size handler new waiting (handed_pages turn pages i)

  -- nothing happens to the image's pages, as at a sync that failed
  abbrev pub RoomKeepsApart : Type 0
  RoomKeepsApart =
      (handler : TurnSide D) (patcher new : PatchSide D) (waiting : List (ℕ × List Page)) (i : ImagePages) → Apart told size handler patcher waiting i
      → Patching told size new i → new.image.pages ≡ patcher.image.pages → new.known ≡ patcher.known → Apart told size handler new waiting i

  -- a page is written, or its write failed
  abbrev pub PatchKeepsApart : Type 0
  PatchKeepsApart =
      (handler : TurnSide D) (patcher new : PatchSide D) (waiting : List (ℕ × List Page)) (i i2 : ImagePages) → Apart told size handler patcher waiting i
      → Patched i i2 → Patching told size new i2 → new.image.pages ≡ patcher.image.pages → new.known ≡ patcher.known → Apart told size handler new waiting i2

  -- the image is synced
  abbrev pub SyncKeepsApart : Type 0
  SyncKeepsApart =
      (handler : TurnSide D) (patcher new : PatchSide D) (waiting : List (ℕ × List Page)) (i : ImagePages) → Apart told size handler patcher waiting i
      → Patching told size new (synced_pages i) → new.image.pages ≡ patcher.image.pages → new.known ≡ patcher.known → Apart told size handler new waiting (synced_pages i)

  -- ---- what a sync tells as settled, a base may leave out

  -- what is to patch is behind the live records, also before what waits is handed
  abbrev pub PatchesAreBehind : Type 0
  PatchesAreBehind = (handler : TurnSide D) (patcher : PatchSide D) (waiting : List (ℕ × List Page)) (i : ImagePages) → Apart told size handler patcher waiting i → IsAheadOf (turn_pages handler) i

  -- and once it is
  abbrev pub WaitingKeepsSettled : Type 0
  WaitingKeepsSettled =
      (handler : TurnSide D) (patcher : PatchSide D) (waiting : List (ℕ × List Page)) (i : ImagePages) (settled : ℕ) → Apart told size handler patcher waiting i
      → settled ≤ patcher.known → MayLeaveOut settled (turn_pages handler) (synced_pages i) → MayLeaveOut settled (turn_pages handler) (hand_all waiting (synced_pages i))

  -- the turn that a sync tells
  abbrev pub ToldIsSettled : Type 0
  ToldIsSettled =
      (handler : TurnSide D) (patcher : PatchSide D) (waiting : List (ℕ × List Page)) (i : ImagePages) → Apart told size handler patcher waiting i
      → MayLeaveOut (settled_turn patcher.known patcher.ahead.items) (turn_pages handler) (hand_all waiting (synced_pages i))

  -- which is no later than the last sealed turn
  abbrev pub ToldIsSealed : Type 0
  ToldIsSealed = (handler : TurnSide D) (patcher : PatchSide D) (waiting : List (ℕ × List Page)) (i : ImagePages) → Apart told size handler patcher waiting i → settled_turn patcher.known patcher.ahead.items ≤ handler.numbers.turns

  -- and once it is told, on its way to the handler, what it leaves out stays clean: at a seal, where a page is written, and at a sync.
  -- A handing changes nothing of it
  abbrev pub SealKeepsTold : Type 0
  SealKeepsTold =
      (handler new : TurnSide D) (patcher : PatchSide D) (waiting : List (ℕ × List Page)) (i : ImagePages) (e : Effects) (turn : ℕ) (pages : List Page) (settled : ℕ) → settled ≤ handler.numbers.turns → IsSealed e handler turn pages new
      → MayLeaveOut settled (turn_pages handler) (hand_all waiting i) → MayLeaveOut settled (turn_pages new) (hand_all (waiting ++ (turn, pages) ∷ []) i)

  abbrev pub PatchKeepsTold : Type 0
  PatchKeepsTold =
      (handler : TurnSide D) (waiting : List (ℕ × List Page)) (i i2 : ImagePages) (settled : ℕ) → Patched i i2
      → MayLeaveOut settled (turn_pages handler) (hand_all waiting i) → MayLeaveOut settled (turn_pages handler) (hand_all waiting i2)

  abbrev pub SyncKeepsTold : Type 0
  SyncKeepsTold =
      (handler : TurnSide D) (patcher : PatchSide D) (waiting : List (ℕ × List Page)) (i : ImagePages) (settled : ℕ) → Apart told size handler patcher waiting i
      → MayLeaveOut settled (turn_pages handler) (hand_all waiting i) → MayLeaveOut settled (turn_pages handler) (hand_all waiting (synced_pages i))

  -- ---- what the disks of the two sides recover to

  -- each image that a crash leaves of them recovers to what the handler's log tells, with the heap after its sealed turns
  abbrev pub ApartRecovers : Type 0
  ApartRecovers =
      (handler : TurnSide D) (patcher : PatchSide D) (waiting : List (ℕ × List Page)) (i : ImagePages) (v : Value) → Apart told size handler patcher waiting i → read_value (turn_pages handler).heap ≡ Some v
      → RecoversTo told handler.owner (disks_apart handler patcher) (Whole (state_in handler) v)

  -- at any moment of a patch
  abbrev pub PatchRecoversApart : Type 0
  PatchRecoversApart =
      (handler : TurnSide D) (patcher new : PatchSide D) (waiting : List (ℕ × List Page)) (i : ImagePages) (v : Value) → Apart told size handler patcher waiting i → read_value (turn_pages handler).heap ≡ Some v
      → Follows (λ h s. Through (λ image. MayBePatched i (take (256 * patcher.image.pages) image)) h s) (told patcher.image.disk) (told new.image.disk)
      → RecoversMeanwhile told handler.owner (disks_apart handler patcher) (disks_apart handler new) (is_one (Whole (state_in handler) v))

  -- and of a sync
  abbrev pub SyncRecoversApart : Type 0
  SyncRecoversApart =
      (handler : TurnSide D) (patcher new : PatchSide D) (waiting : List (ℕ × List Page)) (i : ImagePages) (v : Value) → Apart told size handler patcher waiting i → read_value (turn_pages handler).heap ≡ Some v
      → Follows (λ h s. Through (λ image. IsPossible i (take (256 * patcher.image.pages) image)) h s) (told patcher.image.disk) (told new.image.disk)
      → RecoversMeanwhile told handler.owner (disks_apart handler patcher) (disks_apart handler new) (is_one (Whole (state_in handler) v))

  -- and of a seal: to that, or to what the log tells with the turn, by what the log mounts as meanwhile
  abbrev pub SealRecoversApart : Type 0
  SealRecoversApart =
      (handler new : TurnSide D) (patcher : PatchSide D) (waiting : List (ℕ × List Page)) (i : ImagePages) (e : Effects) (v now : Value) → Apart told size handler patcher waiting i
      → IsSome handler.objects.begun → IsRecord One (record_of (handler.numbers.turns + 1) e []) → follows handler.owner handler.numbers (record_of (handler.numbers.turns + 1) e []) ≡ true → IsSameNode handler new
      → read_value (turn_pages handler).heap ≡ Some v → read_value handler.objects.bytes ≡ Some now
      → Follows (λ h s. Through (MountsAsEither (mount_of h.now.seen) (with_record (coming_record handler e) (mount_of h.now.seen))) h s) (told handler.log.disk) (told new.log.disk)
      → RecoversMeanwhile told handler.owner (disks_apart handler patcher) (disks_apart new patcher) (is_either (Whole (state_in handler) v) (sealed_state e handler now))

  -- and of a call of the handler's side that leaves the log's records as they are, as a seal that ran out of memory: to that alone
  abbrev pub UnsealedRecoversApart : Type 0
  UnsealedRecoversApart =
      (handler new : TurnSide D) (patcher : PatchSide D) (waiting : List (ℕ × List Page)) (i : ImagePages) (v : Value) → Apart told size handler patcher waiting i → IsSameNode handler new → read_value (turn_pages handler).heap ≡ Some v
      → Follows (λ h s. Through (MountsAs (mount_of h.now.seen)) h s) (told handler.log.disk) (told new.log.disk)
      → RecoversMeanwhile told handler.owner (disks_apart handler patcher) (disks_apart new patcher) (is_one (Whole (state_in handler) v))

  -- and of a turnover: to that, or to it without the messages and outputs that were told
  abbrev pub TurnoverRecoversApart : Type 0
  TurnoverRecoversApart =
      (handler new : TurnSide D) (patcher : PatchSide D) (waiting : List (ℕ × List Page)) (i : ImagePages) (result : Result (Unit {0}) StoreFault) (settled : ℕ) (acked : List ℕ) (emitted : ℕ) (v : Value) → Apart told size handler patcher waiting i
      → handler.objects.begun ≡ None → MayLeaveOut settled (turn_pages handler) (hand_all waiting i) → read_value (turn_pages handler).heap ≡ Some v
      → OnOk result (IsTurned settled acked emitted handler new) → OnErr result (IsUnturned handler new) → kept_disk result new ≡ handler.log.disk
      → Follows (λ h s. Replaces (mounts.Whole (next_header handler.log (base_of handler settled acked emitted)) (Some (base_of handler settled acked emitted)) []) (log_answer result) h s) (told handler.other) (told (replaced_disk result new))
      → RecoversMeanwhile told handler.owner (disks_apart handler patcher) (disks_apart new patcher) (is_either (Whole (state_in handler) v) (Whole (without_told acked emitted (state_in handler)) v))

  -- ---- a turn that is begun may be taken back, whatever it did to the heap

  -- the side takes calls, with the pages and the heap of the begin
  abbrev pub WorkMayBeUndone : Type 0
  WorkMayBeUndone =
      (handler new : TurnSide D) (heap : FramedHeap) → Turning told size handler → IsSome handler.objects.begun → heap.begun ≡ handler.objects.begun → heap_in new.objects ≡ undone (heap_in heap) → KeepsLog (record handler { objects = heap }) new
      → Turning told size new × (turn_pages new ≡ turn_pages handler) × (heap_in new.objects ≡ undone (heap_in handler.objects))

  -- and a store stands as it did
  abbrev pub WorkStandsUndone : Type 0
  WorkStandsUndone =
      (store new : Store D) (heap : FramedHeap) (i : ImagePages) → Standing told size store i → IsSome store.turns.objects.begun → heap.begun ≡ store.turns.objects.begun → heap_in new.turns.objects ≡ undone (heap_in heap)
      → KeepsLog (record store.turns { objects = heap }) new.turns → new.patches ≡ store.patches → Standing told size new i
