-- What a call of one side keeps of the two that are apart.
use Rattle.std.proofs.Common.{◌≡◌, ℕ, ◌+◌, ◌<◌, ◌≤◌, List, [], ◌∷◌, ◌++◌, true, Option, Some, None, IsSome, refl, sym, ap, subst, ◌∙◌, arith}
use Rattle.ken_disk.specs.Story.{Story}
use Rattle.ken_alloc.specs.Objects.{Heap, FramedHeap, heap_in}
use Rattle.ken_record.specs.declared.page.Page.{Page}
use Rattle.ken_cover.specs.Overlay.{AreWithin}
use Rattle.ken_cover.specs.Sides.{TurnPages, ImagePages, sealed_pages, handed_pages, synced_pages, turned_pages}
use Rattle.ken_cover.specs.Covers.{Covers, MayLeaveOut}
use Rattle.ken_cover.proofs.Keeps.{seal_keeps_coverage, patch_keeps_coverage, sync_keeps_coverage, turnover_keeps_coverage}
use Rattle.ken_store.specs.declared.numbers.Numbers.{Numbers}
use Rattle.ken_store.specs.declared.owner.Owner.{Owner}
use Rattle.ken_store.specs.declared.patching.Ahead.{Ahead}
use Rattle.ken_store.specs.declared.patching.Origin.{Origin}
use Rattle.ken_store.specs.declared.patching.Origin.TheVariants.{Base, Record}
use Rattle.ken_store.specs.declared.patching.PatchSide.{PatchSide}
use Rattle.ken_store.specs.declared.turning.TurnSide.{TurnSide}
use Rattle.ken_store.specs.Apart.{hand_all, known_after, MayWait, Apart, BeginKeepsApart, WorkKeepsApart, AbortKeepsApart, TurnKeepsApart, SealKeepsApart, TurnoverKeepsApart, WaitingMayBeHanded, HandKeepsApart, RoomKeepsApart, PatchKeepsApart, SyncKeepsApart, PatchesAreBehind, WaitingKeepsSettled, ToldIsSettled, ToldIsSealed, SealKeepsTold, PatchKeepsTold, SyncKeepsTold}
use Rattle.ken_store.specs.Patching.{RiseWithin, origin_before, settled_turn}
use Rattle.ken_store.specs.PatchLaws.{IsAheadOf, LastChangedBefore}
use Rattle.ken_store.specs.Turning.{KeepsLog, begun_on, sealed_bytes, turn_pages}
use Rattle.ken_store.proofs.AheadLaws.{patch_keeps_ahead, patch_keeps_settled, seal_keeps_settled, sync_keeps_settled, seal_keeps_ahead, sync_keeps_ahead, turnover_keeps_ahead, was_changed}
use Rattle.ken_store.proofs.ApartPages.{hand_all-last, known_after-from, known_after-last, MayWait-last, covers_same, behind_same, clean_same, hand_all-synced, hand_all-patched, behind_now, hand_all-settled, first_within}
use Rattle.ken_store.proofs.PatchLaws.{settled_clean}
use Rattle.ken_store.proofs.SealMeanwhile.{changed_within, sealed_before, sealed_size, undone_pages}
use Rattle.ken_store.proofs.Sealing.{pages_are}

-- live pages that were sealed before a turn were so before a turnover
turned_before : (n settled turn before : ℕ) (t : TurnPages) → LastChangedBefore before t → LastChangedBefore before (turned_pages n settled turn t)
turned_before n settled turn before t all p c is =
    let d = was_changed settled t p n turn c is in
    let low = all p d.0 d.1 in
    omega (arith, low, d.2)

-- what is told as settled is no later than what is known
origin_within : (o : Origin) (turn : ℕ) → origin_before o turn ≤ turn
origin_within Base turn = omega arith
origin_within Record turn = omega arith

settled_within : (known : ℕ) (items : List Ahead) → RiseWithin 0 known items → settled_turn known items ≤ known
settled_within known [] rises = omega arith
settled_within known (a ∷ rest) rises = let before = origin_within a.origin a.turn in omega (arith, before, rises.1)

-- the sealed bytes are those at `begin`
begun_bytes : (h : Heap) → h.begun ≡ None → sealed_bytes (begun_on h).bytes (begun_on h).begun ≡ sealed_bytes h.bytes h.begun
begun_bytes h none = ap (sealed_bytes h.bytes) (sym none)

work_bytes : (a b : List ℕ) (o : Option (List ℕ)) → IsSome o → sealed_bytes a o ≡ sealed_bytes b o
work_bytes a b None some = absurd cc
work_bytes a b (Some before) some = refl

begun_pages : {D : Type 0} (old new : TurnSide D) → old.objects.begun ≡ None → heap_in new.objects ≡ begun_on (heap_in old.objects) → KeepsLog old new → turn_pages new ≡ turn_pages old
begun_pages old new none objects same = pages_are _ _ _ _ (ap (λ (h : Heap). sealed_bytes h.bytes h.begun) objects ∙ begun_bytes (heap_in old.objects) none) (rw (same.log, same.base_turns, same.records) refl)

work_pages : {D : Type 0} (side : TurnSide D) (heap : FramedHeap) → IsSome side.objects.begun → heap.begun ≡ side.objects.begun → turn_pages (record side { objects = heap }) ≡ turn_pages side
work_pages side heap some begun = pages_are _ _ _ _ (ap (sealed_bytes heap.bytes) begun ∙ work_bytes heap.bytes side.objects.bytes side.objects.begun some) refl

module _ {D : Type 0} (told : D → Option Story) (size : D → ℕ) where
  pub turn_keeps_apart : TurnKeepsApart told size
  turn_keeps_apart handler new patcher waiting i apart turning pages owner numbers = record {
    turns = turning;
    patches = apart.patches;
    count = apart.count ∙ ap (λ (o : Owner). o.pages) (sym owner);
    waits = apart.waits;
    known = apart.known ∙ ap (λ (n : Numbers). n.turns) (sym numbers);
    covers = subst (λ (n : ℕ). Covers n true (turn_pages new) (hand_all waiting i)) (ap (λ (o : Owner). o.pages) (sym owner)) (subst (λ (t : TurnPages). Covers handler.owner.pages true t (hand_all waiting i)) (sym pages) apart.covers);
    behind = subst (λ (t : TurnPages). IsAheadOf t (hand_all waiting i)) (sym pages) apart.behind;
    before = subst (λ (m : ℕ). LastChangedBefore (m + 1) (turn_pages new)) (ap (λ (n : Numbers). n.turns) (sym numbers)) (subst (λ (t : TurnPages). LastChangedBefore (handler.numbers.turns + 1) t) (sym pages) apart.before);
  }

  pub begin_keeps_apart : BeginKeepsApart told size
  begin_keeps_apart handler new patcher waiting i apart turning none objects same = turn_keeps_apart handler new patcher waiting i apart turning (begun_pages handler new none objects same) same.owner same.numbers

  pub work_keeps_apart : WorkKeepsApart told size
  work_keeps_apart handler patcher waiting i heap apart turning some begun = turn_keeps_apart handler (record handler { objects = heap }) patcher waiting i apart turning (work_pages handler heap some begun) refl refl

  pub abort_keeps_apart : AbortKeepsApart told size
  abort_keeps_apart handler new patcher waiting i apart turning objects same = turn_keeps_apart handler new patcher waiting i apart turning (undone_pages handler new same objects) same.owner same.numbers

  pub seal_keeps_apart : SealKeepsApart told size
  seal_keeps_apart handler new patcher waiting i e turn pages apart turning sealed changed owner =
      let n : ℕ = handler.owner.pages in
      let within : AreWithin n pages = changed_within n (turn_pages handler).heap pages (sealed_size n (heap_in handler.objects) apart.turns.heap) changed.each in
      let now : new.numbers.turns ≡ turn = ap (λ (n : Numbers). n.turns) sealed.numbers in
      let later : known_after patcher.known waiting < turn = let counted = sealed.counted in let known = apart.known in omega (arith, counted, known) in
      let same : new.owner.pages ≡ n = ap (λ (o : Owner). o.pages) owner in
      let before : LastChangedBefore turn (turn_pages handler) = subst (λ (m : ℕ). LastChangedBefore m (turn_pages handler)) (sym sealed.counted) apart.before in
      let covers : Covers n true (sealed_pages turn pages (turn_pages handler)) (handed_pages turn pages (hand_all waiting i)) = seal_keeps_coverage n true (turn_pages handler) (hand_all waiting i) turn pages within apart.covers in
      let behind : IsAheadOf (sealed_pages turn pages (turn_pages handler)) (handed_pages turn pages (hand_all waiting i)) = seal_keeps_ahead turn pages (turn_pages handler) (hand_all waiting i) before apart.behind in
      let live = sealed.live in
      let last = hand_all-last waiting turn pages i in
      record {
        turns = turning;
        patches = apart.patches;
        count = apart.count ∙ sym same;
        waits = MayWait-last patcher.known waiting turn pages apart.waits later changed.rising;
        known = known_after-last patcher.known waiting turn pages ∙ sym now;
        covers =
            subst (λ (m : ℕ). Covers m true (turn_pages new) (hand_all (waiting ++ (turn, pages) ∷ []) i)) (sym same)
            (subst (λ (t : TurnPages). Covers n true t (hand_all (waiting ++ (turn, pages) ∷ []) i)) (sym live)
            (subst (λ (j : ImagePages). Covers n true (sealed_pages turn pages (turn_pages handler)) j) (sym last) covers));
        behind =
            subst (λ (t : TurnPages). IsAheadOf t (hand_all (waiting ++ (turn, pages) ∷ []) i)) (sym live)
            (subst (λ (j : ImagePages). IsAheadOf (sealed_pages turn pages (turn_pages handler)) j) (sym last) behind);
        before = subst (λ (m : ℕ). LastChangedBefore (m + 1) (turn_pages new)) (sym now) (subst (λ (t : TurnPages). LastChangedBefore (turn + 1) t) (sym live) (sealed_before turn pages (turn_pages handler) before));
      }

  pub turnover_keeps_apart : TurnoverKeepsApart told size
  turnover_keeps_apart handler new patcher waiting i settled apart may turning pages owner numbers =
      let n : ℕ = handler.owner.pages in
      let turn : ℕ = handler.numbers.turns in
      let same : new.owner.pages ≡ n = ap (λ (o : Owner). o.pages) owner in
      record {
        turns = turning;
        patches = apart.patches;
        count = apart.count ∙ sym same;
        waits = apart.waits;
        known = apart.known ∙ ap (λ (m : Numbers). m.turns) (sym numbers);
        covers =
            subst (λ (m : ℕ). Covers m true (turn_pages new) (hand_all waiting i)) (sym same)
            (subst (λ (t : TurnPages). Covers n true t (hand_all waiting i)) (sym pages) (turnover_keeps_coverage n true (turn_pages handler) (hand_all waiting i) settled turn may apart.covers));
        behind = subst (λ (t : TurnPages). IsAheadOf t (hand_all waiting i)) (sym pages) (turnover_keeps_ahead n settled turn (turn_pages handler) (hand_all waiting i) may apart.covers apart.behind);
        before = subst (λ (m : ℕ). LastChangedBefore (m + 1) (turn_pages new)) (ap (λ (m : Numbers). m.turns) (sym numbers)) (subst (λ (t : TurnPages). LastChangedBefore (turn + 1) t) (sym pages) (turned_before n settled turn (turn + 1) (turn_pages handler) apart.before));
      }

  pub waiting_may_be_handed : WaitingMayBeHanded told size
  waiting_may_be_handed handler patcher turn pages waiting i apart = record {
    later = apart.waits.0;
    within = subst (λ (n : ℕ). AreWithin n pages) (sym apart.count) (first_within handler.owner.pages turn pages waiting i apart.covers.ahead_within);
    rising = apart.waits.1;
  }

  pub hand_keeps_apart : HandKeepsApart told size
  hand_keeps_apart handler patcher new turn pages waiting i apart patching count known = record {
    turns = apart.turns;
    patches = patching;
    count = count ∙ apart.count;
    waits = subst (λ (k : ℕ). MayWait k waiting) (sym known) apart.waits.2;
    known = ap (λ (k : ℕ). known_after k waiting) known ∙ apart.known;
    covers = apart.covers;
    behind = apart.behind;
    before = apart.before;
  }

  pub room_keeps_apart : RoomKeepsApart told size
  room_keeps_apart handler patcher new waiting i apart patching count known = record {
    turns = apart.turns;
    patches = patching;
    count = count ∙ apart.count;
    waits = subst (λ (k : ℕ). MayWait k waiting) (sym known) apart.waits;
    known = ap (λ (k : ℕ). known_after k waiting) known ∙ apart.known;
    covers = apart.covers;
    behind = apart.behind;
    before = apart.before;
  }

  pub patch_keeps_apart : PatchKeepsApart told size
  patch_keeps_apart handler patcher new waiting i i2 apart patched patching count known =
      let all = hand_all-patched waiting i i2 patched in
      record {
        turns = apart.turns;
        patches = patching;
        count = count ∙ apart.count;
        waits = subst (λ (k : ℕ). MayWait k waiting) (sym known) apart.waits;
        known = ap (λ (k : ℕ). known_after k waiting) known ∙ apart.known;
        covers = subst (λ (j : ImagePages). Covers handler.owner.pages true (turn_pages handler) j) (sym all.is) (patch_keeps_coverage handler.owner.pages (turn_pages handler) (hand_all waiting i) all.page all.first all.rest all.change all.next apart.covers);
        behind = subst (λ (j : ImagePages). IsAheadOf (turn_pages handler) j) (sym all.is) (patch_keeps_ahead (turn_pages handler) (hand_all waiting i) all.page all.first all.rest all.change all.next apart.behind);
        before = apart.before;
      }

  -- what is behind stays so at a sync
  behind_synced : (handler : TurnSide D) (patcher : PatchSide D) (waiting : List (ℕ × List Page)) (i : ImagePages) → Apart told size handler patcher waiting i → IsAheadOf (turn_pages handler) (hand_all waiting (synced_pages i))
  behind_synced handler patcher waiting i apart = behind_same (turn_pages handler) (synced_pages (hand_all waiting i)) (hand_all waiting (synced_pages i)) (hand_all-synced waiting i) (sync_keeps_ahead (turn_pages handler) (hand_all waiting i) apart.behind)

  pub sync_keeps_apart : SyncKeepsApart told size
  sync_keeps_apart handler patcher new waiting i apart patching count known = record {
    turns = apart.turns;
    patches = patching;
    count = count ∙ apart.count;
    waits = subst (λ (k : ℕ). MayWait k waiting) (sym known) apart.waits;
    known = ap (λ (k : ℕ). known_after k waiting) known ∙ apart.known;
    covers = covers_same handler.owner.pages true (turn_pages handler) (synced_pages (hand_all waiting i)) (hand_all waiting (synced_pages i)) (hand_all-synced waiting i) (sync_keeps_coverage handler.owner.pages (turn_pages handler) (hand_all waiting i) apart.covers);
    behind = behind_synced handler patcher waiting i apart;
    before = apart.before;
  }

  pub patches_are_behind : PatchesAreBehind told size
  patches_are_behind handler patcher waiting i apart = behind_now (turn_pages handler) waiting i apart.behind

  pub waiting_keeps_settled : WaitingKeepsSettled told size
  waiting_keeps_settled handler patcher waiting i settled apart until may = hand_all-settled settled patcher.known (turn_pages handler) waiting (synced_pages i) apart.waits until (behind_synced handler patcher waiting i apart) may

  pub told_is_settled : ToldIsSettled told size
  told_is_settled handler patcher waiting i apart =
      waiting_keeps_settled handler patcher waiting i (settled_turn patcher.known patcher.ahead.items) apart (settled_within patcher.known patcher.ahead.items apart.patches.takes.order.rising)
      (settled_clean patcher.known patcher.ahead.items (turn_pages handler) i apart.patches.takes.order apart.patches.ahead (patches_are_behind handler patcher waiting i apart))

  pub told_is_sealed : ToldIsSealed told size
  told_is_sealed handler patcher waiting i apart =
      let settled = settled_within patcher.known patcher.ahead.items apart.patches.takes.order.rising in
      let known = known_after-from patcher.known waiting apart.waits in
      let last = apart.known in
      omega (arith, settled, known, last)

  pub seal_keeps_told : SealKeepsTold told size
  seal_keeps_told handler new patcher waiting i e turn pages settled until sealed may =
      let later : settled < turn = let counted = sealed.counted in omega (arith, counted, until) in
      let live = sealed.live in
      subst (λ (t : TurnPages). MayLeaveOut settled t (hand_all (waiting ++ (turn, pages) ∷ []) i)) (sym live)
      (subst (λ (j : ImagePages). MayLeaveOut settled (sealed_pages turn pages (turn_pages handler)) j) (sym (hand_all-last waiting turn pages i)) (seal_keeps_settled settled turn pages (turn_pages handler) (hand_all waiting i) later may))

  pub patch_keeps_told : PatchKeepsTold told size
  patch_keeps_told handler waiting i i2 settled patched may =
      let all = hand_all-patched waiting i i2 patched in
      subst (λ (j : ImagePages). MayLeaveOut settled (turn_pages handler) j) (sym all.is) (patch_keeps_settled settled (turn_pages handler) (hand_all waiting i) all.page all.first all.rest all.change all.next may)

  pub sync_keeps_told : SyncKeepsTold told size
  sync_keeps_told handler patcher waiting i settled apart may =
      clean_same settled (turn_pages handler) (synced_pages (hand_all waiting i)) (hand_all waiting (synced_pages i)) (hand_all-synced waiting i) (sync_keeps_settled handler.owner.pages settled (turn_pages handler) (hand_all waiting i) apart.covers may)
