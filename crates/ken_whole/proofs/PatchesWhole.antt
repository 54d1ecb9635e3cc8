-- A patch and a sync of a whole node.
use Rattle.std.proofs.Common.{◌≡◌, ℕ, ◌*◌, List, [], ◌∷◌, ◌++◌, Bool, true, false, IsTrue, Option, Result, Ok, Err, IsErrOf, refl, sym, ap, subst, ◌∙◌, arith}
use Rattle.ken_disk.specs.Fates.{Fate}
use Rattle.ken_disk.specs.Story.{Story}
use Rattle.ken_model.specs.Game.{Game}
use Rattle.ken_model.specs.History.{IsPrefixOf}
use Rattle.ken_record.specs.declared.page.Page.{Page}
use Rattle.ken_cover.specs.Covers.{Covers, MayLeaveOut}
use Rattle.ken_cover.specs.Sides.{TurnPages, ImagePages, synced_pages}
use Rattle.ken_core.specs.declared.events.Event.TheVariants.{Patch, SyncImage}
use Rattle.ken_core.specs.Calls.{Call, IsNone, IsPatchOf, IsSync}
use Rattle.ken_core.specs.Nodes.{Node, heap_pages}
use Rattle.ken_core.specs.Packets.{nothing}
use Rattle.ken_core.specs.Steps.{patched_node, synced_node}
use Rattle.ken_links.specs.declared.pop_end.PopEnd.{PopEnd}
use Rattle.ken_links.specs.Rings.{pushed, popped}
use Rattle.ken_store.specs.declared.faults.StoreFault.{StoreFault}
use Rattle.ken_store.specs.declared.faults.StoreFault.TheVariants.{Disk, Memory, Damaged}
use Rattle.ken_store.specs.Apart.{Apart, hand_all}
use Rattle.ken_store.specs.Patching.{Patched, Patching, settled_turn}
use Rattle.ken_store.specs.Turning.{turn_pages}
use Rattle.ken_store.proofs.AheadLaws.{patch_keeps_settled, sync_keeps_settled}
use Rattle.ken_store.proofs.ApartLaws.{patch_keeps_apart, room_keeps_apart, sync_keeps_apart, told_is_sealed, told_is_settled}
use Rattle.ken_store.proofs.ApartPages.{hand_all-patched}
use Rattle.ken_ship.specs.declared.worker.SendWorker.{SendWorker}
use Rattle.ken_ship.proofs.Emissions.{others_keep_due}
use Rattle.ken_work.specs.News.{progress_told, turn_settled}
use Rattle.ken_work.specs.declared.items.Settled.{Settled}
use Rattle.ken_work.specs.declared.items.Frozen.{Frozen}
use Rattle.ken_work.specs.declared.patcher.PatchWorker.{PatchWorker}
use Rattle.ken_work.specs.declared.worker.TurnWorker.{TurnWorker}
use Rattle.ken_work.specs.Meeting.{AreFronts, AreJoined}
use Rattle.ken_work.specs.Patches.{IsSamePatcher, Patches, PatchesOnce, SettlesOnce, TakesNone, TakesOver, settled_of, waits_of, went, no_room}
use Rattle.ken_whole.specs.Whole.{AreWorkersOf, HasReached, HavePages, IsSettledAt, IsWhole, WereTold}
use Rattle.ken_whole.specs.WholeLaws.{LeadsTo, PatchedBy, PatchKeepsWhole, SyncedBy, SyncKeepsWhole}
use Rattle.ken_whole.proofs.Handed.{handed_apart, handed_same, synced_same}
use Rattle.ken_whole.proofs.Rings.{queue-moved, ring-popped, ring-pushed}
use Rattle.ken_whole.proofs.Told.{told-by, told-last}

module _ {D : Type 0} (told : D → Option Story) (size : D → ℕ) (g : Game) (v : ℕ) where
  -- where only the pages of the image change
  pub workers-patched : (n : Node) (t : TurnWorker D) (p p2 : PatchWorker D) (s : SendWorker) (image : ImagePages) → AreWorkersOf told size g v n t p s → AreJoined t p2 s
      → WereTold turn_settled (IsSettledAt (record n { patching = image })) (pushed p2.settled) (popped t.settled) t.told.settled → AreWorkersOf told size g v (record n { patching = image }) t p2 s
  workers-patched n t p p2 s image w joined settled =
      let n2 : Node = record n { patching = image } in
      let tells = w.log.state in
      record {
        of_run = w.of_run;
        joined = joined;
        working = w.working;
        turns = record { kept = w.turns.kept; counted = w.turns.counted; reads = w.turns.reads };
        log = record {
          state = record { width = tells.width; sent = tells.sent; messages = tells.messages; outputs = tells.outputs; outs = tells.outs };
          sent = record { acked = w.log.sent.acked; emitted = w.log.sent.emitted };
          width = w.log.width;
          paced = w.log.paced;
        };
        sends = record {
          queue = w.sends.queue;
          ring = w.sends.ring;
          due = others_keep_due g v n n2 _ w.sends.due w.sends.due.up refl refl;
          sent = record { acked = w.sends.sent.acked; emitted = w.sends.sent.emitted };
        };
        settled = settled;
        progress = told-by progress_told (HasReached g n) (HasReached g n2) (pushed s.told) (popped t.progress) t.told.progress (λ x is. record { acked = is.acked; emitted = is.emitted }) w.progress;
      }

  pub joined-patcher : (t : TurnWorker D) (p p2 : PatchWorker D) (s : SendWorker) → AreJoined t p s → IsSamePatcher p p2 → AreJoined t p2 s
  joined-patcher t p p2 s joined same = record {
    pages = ring-popped t.pages p.pages p2.pages joined.pages same.pages;
    sealed = joined.sealed;
    settled = ring-pushed p.settled p2.settled t.settled joined.settled same.settled;
    progress = joined.progress;
  }

  -- turns were taken from the ring
  pages-taken : (n : Node) (t : TurnWorker D) (p mid : PatchWorker D) → HavePages told size n t p → TakesOver told size p mid → IsPrefixOf (popped mid.pages) (pushed t.pages) → HavePages told size n t mid
  pages-taken n t p mid pages takes front =
      let rest : List Frozen = front.0 in
      let parts : pages.queue ≡ takes.turns ++ rest = queue-moved (pushed t.pages) (popped p.pages) (popped mid.pages) pages.queue takes.turns rest pages.ring takes.popped_are front.1 in
      record {
        queue = rest;
        ring = front.1;
        image = hand_all (waits_of takes.turns) pages.image;
        apart = handed_apart told size t.side p.side mid.side takes.turns rest pages.image (subst (λ (q : List Frozen). Apart told size t.side p.side (waits_of q) pages.image) parts pages.apart) takes.handed;
        turning = pages.turning;
        patching = pages.patching ∙ ap (λ (q : List Frozen). hand_all (waits_of q) pages.image) parts ∙ handed_same takes.turns rest pages.image;
      }

  -- nothing happened to the image's pages
  pages-kept : (n : Node) (t : TurnWorker D) (p p2 : PatchWorker D) (pages : HavePages told size n t p) → popped p2.pages ≡ popped p.pages → Patching told size p2.side pages.image → p2.side.image.pages ≡ p.side.image.pages → p2.side.known ≡ p.side.known
      → HavePages told size n t p2
  pages-kept n t p p2 pages same patching count known = record {
    queue = pages.queue;
    ring = pages.ring ∙ ap (λ (xs : List Frozen). xs ++ pages.queue) (sym same);
    image = pages.image;
    apart = room_keeps_apart told size t.side p.side p2.side (waits_of pages.queue) pages.image pages.apart patching count known;
    turning = pages.turning;
    patching = pages.patching;
  }

  -- the page that is written next, of the node's pages
  node-patched : (n : Node) (t : TurnWorker D) (p : PatchWorker D) (pages : HavePages told size n t p) (image : ImagePages) → Patched pages.image image → Patched n.patching (hand_all (waits_of pages.queue) image)
  node-patched n t p pages image patched = subst (λ (i : ImagePages). Patched i (hand_all (waits_of pages.queue) image)) (sym pages.patching) (hand_all-patched (waits_of pages.queue) pages.image image patched)

  patch-call : (n : Node) (image : ImagePages) → IsTrue n.turning.up → Patched n.patching image → Call g v [] (IsPatchOf v) n nothing (record n { patching = image })
  patch-call n image up is =
      let after : Node = record n { patching = image } in
      let same : after ≡ patched_node is.first is.rest is.change n = ap (λ (i : ImagePages). record n { patching = i }) is.is in
      record {
        events = Patch v is.page ∷ [];
        run = (after, (nothing, (refl, (is.first, (is.rest, (is.change, (up, is.next, same)))), refl, (refl, refl))));
        which = (is.page, refl);
      }

  none-call : (n : Node) → Call g v [] IsNone n nothing n
  none-call n = record { events = []; run = (refl, refl); which = refl }

  settled-patched : (n : Node) (image : ImagePages) → Patched n.patching image → (settled : ℕ) → IsSettledAt n settled → IsSettledAt (record n { patching = image }) settled
  settled-patched n image is settled at = record {
    made = at.made;
    clean = subst (MayLeaveOut settled n.turning.pages) (sym is.is) (patch_keeps_settled settled n.turning.pages n.patching is.page is.first is.rest is.change is.next at.clean);
  }

  -- the patcher's other end stays as it is
  settled-kept : (n : Node) (t : TurnWorker D) (p p2 : PatchWorker D) (image : ImagePages) → p2.settled ≡ p.settled → ((settled : ℕ) → IsSettledAt n settled → IsSettledAt (record n { patching = image }) settled)
      → WereTold turn_settled (IsSettledAt n) (pushed p.settled) (popped t.settled) t.told.settled → WereTold turn_settled (IsSettledAt (record n { patching = image })) (pushed p2.settled) (popped t.settled) t.told.settled
  settled-kept n t p p2 image same by were =
      let n2 : Node = record n { patching = image } in
      subst (λ (xs : List Settled). WereTold turn_settled (IsSettledAt n2) xs (popped t.settled) t.told.settled) (sym (ap pushed same)) (told-by turn_settled (IsSettledAt n) (IsSettledAt n2) (pushed p.settled) (popped t.settled) t.told.settled by were)

  pub covers-node : (n : Node) (t : TurnWorker D) (p : PatchWorker D) → 256 * t.side.owner.pages ≡ g.size → HavePages told size n t p → Covers (heap_pages g) true n.turning.pages n.patching
  covers-node n t p sized pages =
      let many : heap_pages g ≡ t.side.owner.pages = omega (arith, sized) in
      subst (λ (k : ℕ). Covers k true n.turning.pages n.patching) (sym many)
      (subst (λ (x : TurnPages). Covers t.side.owner.pages true x n.patching) (sym pages.turning) (subst (Covers t.side.owner.pages true (turn_pages t.side)) (sym pages.patching) pages.apart.covers))

  module _ (count : D → ℕ) (fate : D → Option Fate) (n : Node) (t : TurnWorker D) (p p2 : PatchWorker D) (s : SendWorker) (whole : IsWhole told size g v n t p s) (same : IsSamePatcher p p2) where
    -- nothing was written
    none-patched : p2.settled ≡ p.settled → HavePages told size n t p2 → LeadsTo told size g v [] IsNone n nothing t p2 s
    none-patched settled pages = record {
      after = n;
      call = none-call n;
      whole = record {
        workers = workers-patched n t p p2 s n.patching whole.workers (joined-patcher t p p2 s whole.workers.joined same) (settled-kept n t p p2 n.patching settled (λ x is. record { made = is.made; clean = is.clean }) whole.workers.settled);
        pages = pages;
      };
    }

    -- a page was written
    one-patched : (mid : PatchWorker D) (pages : HavePages told size n t mid) (image : ImagePages) → popped p2.pages ≡ popped mid.pages → p2.settled ≡ p.settled → Patched pages.image image → Patching told size p2.side image
        → p2.side.image.pages ≡ mid.side.image.pages → p2.side.known ≡ mid.side.known → LeadsTo told size g v [] (IsPatchOf v) n nothing t p2 s
    one-patched mid pages image popped_same settled patched patching count_is known =
        let all : ImagePages = hand_all (waits_of pages.queue) image in
        let is : Patched n.patching all = node-patched n t mid pages image patched in
        record {
          after = record n { patching = all };
          call = patch-call n all whole.workers.sends.due.up is;
          whole = record {
            workers = workers-patched n t p p2 s all whole.workers (joined-patcher t p p2 s whole.workers.joined same) (settled-kept n t p p2 all settled (settled-patched n all is) whole.workers.settled);
            pages = record {
              queue = pages.queue;
              ring = pages.ring ∙ ap (λ (xs : List Frozen). xs ++ pages.queue) (sym popped_same);
              image = image;
              apart = patch_keeps_apart told size t.side mid.side p2.side (waits_of pages.queue) pages.image image pages.apart patched patching count_is known;
              turning = pages.turning;
              patching = refl;
            };
          };
        }

    -- by the answer
    patched-by : (result : Result Bool StoreFault) (mid : PatchWorker D) (pages : HavePages told size n t mid) → popped p2.pages ≡ popped mid.pages → p2.settled ≡ p.settled → Patches told size count fate result mid.side p2.side → PatchedBy told size result g v n t p2 s
    patched-by (Ok true) mid pages popped_same settled is = let by = is.stands pages.image pages.apart.patches in one-patched mid pages by.0 popped_same settled by.1.0 by.1.1 is.pages is.known
    patched-by (Ok false) mid pages popped_same settled is = let by = is.stands pages.image pages.apart.patches in none-patched settled (pages-kept n t mid p2 pages popped_same by.1 is.pages is.known)
    patched-by (Err Memory) mid pages popped_same settled is = none-patched settled (pages-kept n t mid p2 pages popped_same (is.stands pages.image pages.apart.patches) is.pages is.known)
    patched-by (Err Disk) mid pages popped_same settled is = let by = is.stands pages.image pages.apart.patches in λ h told_is. one-patched mid pages by.0 popped_same settled by.1.0 (by.1.1 h told_is) is.pages is.known
    patched-by (Err (Damaged disk place)) mid pages popped_same settled is = is.stands pages.image pages.apart.patches

    no-room-patched : (result : Result Bool StoreFault) → IsErrOf result Memory → TakesNone told size p p2 → PatchedBy told size result g v n t p2 s
    no-room-patched result is takes =
        subst (λ (r : Result Bool StoreFault). PatchedBy told size r g v n t p2 s) (sym is)
        (none-patched takes.settled (pages-kept n t p p2 whole.pages (ap popped takes.pages) (takes.handed.stands tt whole.pages.image whole.pages.apart.patches) (ap (λ x. x.pages) takes.handed.image) (takes.handed.known tt)))

  patched-once : (count : D → ℕ) (fate : D → Option Fate) (n : Node) (t : TurnWorker D) (p p2 : PatchWorker D) (s : SendWorker) (result : Result Bool StoreFault) → IsWhole told size g v n t p s → IsSamePatcher p p2 → PatchesOnce told size count fate result p p2
      → AreFronts t p2 s → PatchedBy told size result g v n t p2 s
  patched-once count fate n t p p2 s result whole same (went mid takes new patches) fronts =
      let popped_same : popped p2.pages ≡ popped mid.pages = ap (λ (x : PatchWorker D). popped x.pages) new in
      let settled : p2.settled ≡ p.settled = ap (λ (x : PatchWorker D). x.settled) new ∙ takes.settled in
      let front : IsPrefixOf (popped mid.pages) (pushed t.pages) = subst (λ (xs : List Frozen). IsPrefixOf xs (pushed t.pages)) popped_same fronts.pages in
      patched-by count fate n t p p2 s whole same result mid (pages-taken n t p mid whole.pages takes front) popped_same settled patches
  patched-once count fate n t p p2 s result whole same (no_room is takes) fronts = no-room-patched count fate n t p p2 s whole same result is takes

  -- the image was synced
  synced : (n : Node) (t : TurnWorker D) (p p2 : PatchWorker D) (s : SendWorker) → IsWhole told size g v n t p s → IsSamePatcher p p2 → p2.pages ≡ p.pages → ((i : ImagePages) → Patching told size p.side i → Patching told size p2.side (synced_pages i))
      → p2.side.image.pages ≡ p.side.image.pages → p2.side.known ≡ p.side.known → pushed p2.settled ≡ pushed p.settled ++ settled_of p.side ∷ [] → LeadsTo told size g v [] (IsSync v) n nothing t p2 s
  synced n t p p2 s whole same ring stands count known tells =
      let pages = whole.pages in
      let waits : List (ℕ × List Page) = waits_of pages.queue in
      let n2 : Node = synced_node n in
      let all : n2.patching ≡ hand_all waits (synced_pages pages.image) = ap synced_pages pages.patching ∙ synced_same waits pages.image in
      let turn : ℕ = settled_turn p.side.known p.side.ahead.items in
      let covers = covers-node n t p whole.workers.of_run.size pages in
      let turns = whole.workers.turns.counted.turns in
      let sealed = told_is_sealed told size t.side p.side waits pages.image pages.apart in
      let now : IsSettledAt n2 turn = record {
        made = omega (arith, turns, sealed);
        clean = subst (λ (x : TurnPages). MayLeaveOut turn x n2.patching) (sym pages.turning) (subst (MayLeaveOut turn (turn_pages t.side)) (sym all) (told_is_settled told size t.side p.side waits pages.image pages.apart));
      } in
      let before : WereTold turn_settled (IsSettledAt n2) (pushed p.settled) (popped t.settled) t.told.settled =
      told-by turn_settled (IsSettledAt n) (IsSettledAt n2) (pushed p.settled) (popped t.settled) t.told.settled (λ x is. record { made = is.made; clean = sync_keeps_settled (heap_pages g) x n.turning.pages n.patching covers is.clean }) whole.workers.settled in
      record {
        after = n2;
        call = record { events = SyncImage v ∷ []; run = (n2, (nothing, (refl, (whole.workers.sends.due.up, refl), refl, (refl, refl)))); which = refl };
        whole = record {
          workers = workers-patched n t p p2 s n2.patching whole.workers (joined-patcher t p p2 s whole.workers.joined same) (told-last turn_settled (IsSettledAt n2) (pushed p.settled) (pushed p2.settled) (popped t.settled) t.told.settled (settled_of p.side) tells before now);
          pages = record {
            queue = pages.queue;
            ring = pages.ring ∙ ap (λ (x : PopEnd Frozen). popped x ++ pages.queue) (sym ring);
            image = synced_pages pages.image;
            apart = sync_keeps_apart told size t.side p.side p2.side waits pages.image pages.apart (stands pages.image pages.apart.patches) count known;
            turning = pages.turning;
            patching = all;
          };
        };
      }

  synced-once : (count : D → ℕ) (fate : D → Option Fate) (n : Node) (t : TurnWorker D) (p p2 : PatchWorker D) (s : SendWorker) (result : Result (Unit {0}) StoreFault) → IsWhole told size g v n t p s → IsSamePatcher p p2 → SettlesOnce told size count fate result p p2
      → SyncedBy told size result g v n t p2 s
  synced-once count fate n t p p2 s (Ok x) whole same is = synced n t p p2 s whole same is.pages is.stands is.count_is is.known is.tells
  synced-once count fate n t p p2 s (Err Memory) whole same is =
      none-patched count fate n t p p2 s whole same is.untold (pages-kept n t p p2 whole.pages (ap popped is.pages) (is.stands whole.pages.image whole.pages.apart.patches) is.count_is is.known)
  synced-once count fate n t p p2 s (Err Disk) whole same is = λ h now.
      none-patched count fate n t p p2 s whole same is.untold (pages-kept n t p p2 whole.pages (ap popped is.pages) (is.stands whole.pages.image whole.pages.apart.patches h now) is.count_is is.known)
  synced-once count fate n t p p2 s (Err (Damaged disk place)) whole same is = is.stands whole.pages.image whole.pages.apart.patches

module _ {D : Type 0} (told : D → Option Story) (size count : D → ℕ) (fate : D → Option Fate) where
  pub patch_keeps_whole : PatchKeepsWhole told size count fate
  patch_keeps_whole g v n t p p2 s result whole same is fronts = patched-once told size g v count fate n t p p2 s result whole same is fronts

  pub sync_keeps_whole : SyncKeepsWhole told size count fate
  sync_keeps_whole g v n t p p2 s result whole same is = synced-once told size g v count fate n t p p2 s result whole same is
