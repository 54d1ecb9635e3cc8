-- A page is written or the image is synced, and the workers meet.
use Rattle.std.proofs.Common.{◌≡◌, ℕ, List, [], ◌∷◌, ◌++◌, ◌≢◌, Option, Some, None, Bool, true, false, Result, Ok, Err, IsSome, refl, sym, ap, subst, ◌∙◌, append-nil}
use Rattle.std.proofs.lemmas.List.{append_cancel_left}
use Rattle.std.proofs.lemmas.Bool.{false≢true}
use Rattle.ken_disk.specs.Fates.{Fate, Suffers}
use Rattle.ken_disk.specs.Story.{Story, Tells, Follows}
use Rattle.ken_image.specs.Calls.{Called, Sync}
use Rattle.ken_image.specs.declared.image.Image.{Image}
use Rattle.ken_model.specs.Game.{Game}
use Rattle.ken_cover.specs.Sides.{ImagePages}
use Rattle.ken_core.specs.declared.events.Event.{Event}
use Rattle.ken_core.specs.Calls.{IsNone, IsPatchOf, IsSync, no_doubt}
use Rattle.ken_core.specs.Nodes.{Node}
use Rattle.ken_core.specs.Packets.{nothing}
use Rattle.ken_links.specs.Rings.{pushed, popped}
use Rattle.ken_store.specs.declared.faults.StoreFault.{StoreFault}
use Rattle.ken_store.specs.declared.faults.StoreFault.TheVariants as store
use Rattle.ken_store.specs.declared.disks.Which.{Which}
use Rattle.ken_store.specs.declared.disks.Which.TheVariants.{First, Second}
use Rattle.ken_store.specs.Answers.{disks_from}
use Rattle.ken_store.specs.Apart.{disks_apart, hand_all}
use Rattle.ken_store.specs.Creations.{HasFailed, IsUnfailed}
use Rattle.ken_store.specs.Ahead.{ahead_layers}
use Rattle.ken_store.specs.Patching.{PatchSuffers, Patching, disk_answer, patch_calls}
use Rattle.ken_ship.specs.declared.faults.NodeFault.{NodeFault}
use Rattle.ken_ship.specs.declared.faults.NodeFault.TheVariants.{Disk, Damaged, Outlet, Memory}
use Rattle.ken_ship.specs.declared.worker.SendWorker.{SendWorker}
use Rattle.ken_ship.specs.Parts.{IsSameWorker as IsSameSender}
use Rattle.ken_work.specs.declared.items.Frozen.{Frozen}
use Rattle.ken_work.specs.declared.patcher.PatchWorker.{PatchWorker}
use Rattle.ken_node.specs.declared.stage.Stage.TheVariants.{Created}
use Rattle.ken_work.specs.declared.worker.TurnWorker.{TurnWorker}
use Rattle.ken_node.specs.Down.{AreTold}
use Rattle.ken_work.specs.Faults.{IsFaultOfWorker, store_answer}
use Rattle.ken_work.specs.Meeting.{AreEmpty, AreJoined, HaveMet}
use Rattle.ken_node.specs.NodeCalls.{DisksFailBy, GoesDown, PatchStepsBy, SettleStepsBy, Steps}
use Rattle.ken_work.specs.Patches.{IsHandedOver, IsSamePatcher, PatchesOnce, SettlesOnce, waits_of, went, no_room}
use Rattle.ken_whole.specs.WholeLaws.{LeadsTo}
use Rattle.ken_node.proofs.GoesDown.{whole_goes_down}
use Rattle.ken_node.proofs.MeetingDown.{meeting_stays_down}
use Rattle.ken_whole.proofs.PatchesWhole.{patch_keeps_whole, sync_keeps_whole}
use Rattle.ken_whole.proofs.Rings.{queue-moved, ring-popped, ring-pushed}
use Rattle.ken_node.proofs.Up.{AreUp, follows-same, image-failed, image-unfailed, met-disks, met-fronts, met-up, still-told, told-image}

front-of-none : {A : Type 0} (xs ys : List A) → xs ++ ys ≡ [] → xs ≡ []
front-of-none [] ys none = refl
front-of-none (x ∷ xs) ys none = absurd cc

not-some : {A : Type 0} (xs : List A) → (xs ≢ [] → ⊥) → xs ≡ []
not-some [] none = refl
not-some (x ∷ xs) none = absurd (none (λ e. cc))

-- what holds where something is told
told-so : {X A : Type 0} (o : Option X) → IsSome o → Tells o (λ x. A) → A
told-so (Some x) some so = so x refl
told-so None some so = absurd (false≢true some)

told-of-image : {D : Type 0} (told : D → Option Story) (w : Which) (log image other : D) → AreTold told (disks_from w log image other) → IsSome (told image)
told-of-image told First log image other tell = tell.1
told-of-image told Second log image other tell = tell.1

-- the workers are joined still, so they may meet
pub joined-patcher : {D : Type 0} (t : TurnWorker D) (p p2 : PatchWorker D) (s : SendWorker) → AreJoined t p s → IsSamePatcher p p2 → AreJoined t p2 s
joined-patcher t p p2 s joined same = record {
  pages = ring-popped t.pages p.pages p2.pages joined.pages same.pages;
  sealed = joined.sealed;
  settled = ring-pushed p.settled p2.settled t.settled joined.settled same.settled;
  progress = joined.progress;
}

module _ {D : Type 0} (told : D → Option Story) (size count : D → ℕ) (fate : D → Option Fate) where
  -- ---- what became of the image's disk

  patched-told : (result : Result Bool StoreFault) (p p2 : PatchWorker D) → PatchesOnce told size count fate result p p2 → IsSome (told p.side.image.disk) → IsSome (told p2.side.image.disk)
  patched-told result p p2 (went mid takes is patches) some =
      still-told (Called (disk_answer result) (patch_calls mid.side.ahead.items)) (told mid.side.image.disk) (told p2.side.image.disk) patches.calls (subst (λ (i : Image D). IsSome (told i.disk)) (sym takes.handed.image) some)
  patched-told result p p2 (no_room e takes) some = subst (λ (i : Image D). IsSome (told i.disk)) (sym takes.handed.image) some

  settled-told : {T : Type 0} (result : Result T StoreFault) (p p2 : PatchWorker D) → SettlesOnce told size count fate result p p2 → IsSome (told p.side.image.disk) → IsSome (told p2.side.image.disk)
  settled-told result p p2 settles some = still-told (Called (disk_answer result) (Sync ∷ [])) (told p.side.image.disk) (told p2.side.image.disk) settles.calls some

  -- after Ok no call of it failed
  patched-unspent : (more : Bool) (p p2 : PatchWorker D) → PatchesOnce told size count fate (Ok more) p p2 → p2.side.image.spent ≡ false
  patched-unspent more p p2 (went mid takes is patches) = patches.takes.unspent
  patched-unspent more p p2 (no_room e takes) = absurd cc

  -- the disks of the node are told still
  disks-told : (t : TurnWorker D) (p p2 : PatchWorker D) → (IsSome (told p.side.image.disk) → IsSome (told p2.side.image.disk)) → AreTold told (disks_apart t.side p.side) → AreTold told (disks_apart t.side p2.side)
  disks-told t p p2 goes tell = told-image told t.side.which t.side.log.disk p.side.image.disk p2.side.image.disk t.side.other goes tell

  image-told : (t : TurnWorker D) (p : PatchWorker D) → AreTold told (disks_apart t.side p.side) → IsSome (told p.side.image.disk)
  image-told t p tell = told-of-image told t.side.which t.side.log.disk p.side.image.disk t.side.other tell

  wrote : (b : Bool) (old new : Option Fate) → Follows (PatchSuffers (Ok b)) old new → new ≡ old
  wrote true old new follows = follows-same (PatchSuffers (Ok true)) old new (λ x y is. is.1) follows
  wrote false old new follows = follows-same (PatchSuffers (Ok false)) old new (λ x y is. is) follows

  patch-disks : (result : Result Bool NodeFault) (t : TurnWorker D) (p p2 : PatchWorker D) → IsFaultOfWorker result → PatchesOnce told size count fate (store_answer result) p p2 → DisksFailBy told count fate result (disks_apart t.side p.side) (disks_apart t.side p2.side)
  patch-disks (Ok b) t p p2 sound (went mid takes is patches) =
      image-unfailed told count fate t.side.which t.side.log.disk p.side.image.disk p2.side.image.disk t.side.other
      (subst (λ (i : Image D). IsUnfailed count fate i.disk p2.side.image.disk) takes.handed.image (record { count = patches.cause; falls = wrote b (fate mid.side.image.disk) (fate p2.side.image.disk) patches.fate_of }))
  patch-disks (Ok b) t p p2 sound (no_room e takes) = absurd cc
  patch-disks (Err Disk) t p p2 sound (went mid takes is patches) =
      image-failed told count fate t.side.which t.side.log.disk p.side.image.disk p2.side.image.disk t.side.other
      (subst (λ (i : Image D). HasFailed count fate i.disk p2.side.image.disk) takes.handed.image (record { count = patches.cause; falls = patches.fate_of }))
  patch-disks (Err Disk) t p p2 sound (no_room e takes) = absurd cc
  patch-disks (Err Memory) t p p2 sound is = tt
  patch-disks (Err Outlet) t p p2 sound is = absurd sound
  patch-disks (Err (Damaged disk place)) t p p2 sound is = absurd sound

  settle-disks : (result : Result (Unit {0}) NodeFault) (t : TurnWorker D) (p p2 : PatchWorker D) → IsFaultOfWorker result → SettlesOnce told size count fate (store_answer result) p p2 → DisksFailBy told count fate result (disks_apart t.side p.side) (disks_apart t.side p2.side)
  settle-disks (Ok x) t p p2 sound is =
      image-unfailed told count fate t.side.which t.side.log.disk p.side.image.disk p2.side.image.disk t.side.other
      (record { count = is.cause; falls = follows-same (Suffers {T = Unit {0}} (Ok x)) (fate p.side.image.disk) (fate p2.side.image.disk) (λ a b suffers. suffers.1) is.fate_of })
  settle-disks (Err Disk) t p p2 sound is =
      image-failed told count fate t.side.which t.side.log.disk p.side.image.disk p2.side.image.disk t.side.other (record { count = is.cause; falls = is.fate_of })
  settle-disks (Err Memory) t p p2 sound is = tt
  settle-disks (Err Outlet) t p p2 sound is = absurd sound
  settle-disks (Err (Damaged disk place)) t p p2 sound is = absurd sound

  -- ---- the node after a call and a meeting

  module _ (g : Game) (v : ℕ) (n : Node) (t t2 : TurnWorker D) (p p1 p2 : PatchWorker D) (s s2 : SendWorker) (up : AreUp told size g v n t p s) (met : HaveMet told size t t2 p1 p2 s s2) (joined : AreJoined t2 p2 s2) (same : IsSameSender s s2) (empty : AreEmpty t2 p2 s2) where
    -- events that lead to a node for which the workers stand lead to one that is up
    patcher-steps : (says : List Event → Type 0) → p1.side.image.spent ≡ false → (IsSome (told p.side.image.disk) → IsSome (told p1.side.image.disk)) → LeadsTo told size g v [] says n nothing t p1 s → Steps told size g v n [] [] says nothing (Created t2 p2 s2)
    patcher-steps says unspent goes leads = record {
      after = leads.after;
      call = leads.call;
      spelled = tt;
      up = met-up told size t t2 p1 p2 s s2 met g v leads.after up.limits up.known leads.whole unspent (disks-told t p p1 goes up.tell) same joined empty;
    }

    -- and, where the call failed, to one that may be restarted
    patcher-fails : (says : List Event → Type 0) → (IsSome (told p.side.image.disk) → IsSome (told p1.side.image.disk)) → LeadsTo told size g v [] says n nothing t p1 s → GoesDown told g v n [] [] says nothing no_doubt (Created t2 p2 s2)
    patcher-fails says goes leads = record {
      after = leads.after;
      call = leads.call;
      spelled = tt;
      down =
          meeting_stays_down told size g v [] leads.after no_doubt t t2 p1 p2 s s2
          (whole_goes_down told size g v [] leads.after t p1 s up.limits up.known leads.whole (disks-told t p p1 goes up.tell)) same joined met;
    }

    -- where no page is to be written, none waits of the node's
    none-ahead : PatchesOnce told size count fate (Ok false) p p1 → n.patching.ahead ≡ []
    none-ahead (no_room e takes) = absurd cc
    none-ahead (went mid takes is patches) =
        let pages = up.whole.pages in
        let fronts = met-fronts told size t t2 p1 p2 s s2 met empty in
        let now : popped p1.pages ≡ popped p.pages ++ takes.turns = ap (λ (w : PatchWorker D). popped w.pages) is ∙ takes.popped_are in
        let parts : pages.queue ≡ takes.turns ++ fronts.pages.0 = queue-moved (pushed t.pages) (popped p.pages) (popped p1.pages) pages.queue takes.turns fronts.pages.0 pages.ring now fronts.pages.1 in
        let none : pages.queue ≡ [] = append_cancel_left (popped p.pages) pages.queue [] (sym pages.ring ∙ sym up.empty.pages.all ∙ sym (append-nil (popped p.pages))) in
        let no_turns : takes.turns ≡ [] = front-of-none takes.turns fronts.pages.0 (sym parts ∙ none) in
        let handed : IsHandedOver told size [] p.side mid.side = subst (λ (fs : List Frozen). IsHandedOver told size fs p.side mid.side) no_turns takes.handed in
        let stands : Patching told size mid.side pages.image = handed.stands tt pages.image pages.apart.patches in
        let no_layers : mid.side.ahead.items ≡ [] = not-some mid.side.ahead.items (λ some. false≢true (patches.more.1 some)) in
        ap (λ (i : ImagePages). i.ahead) (pages.patching ∙ ap (λ (q : List Frozen). hand_all (waits_of q) pages.image) none) ∙ sym stands.ahead ∙ ap ahead_layers no_layers

    pub patch-steps : (result : Result Bool NodeFault) → IsFaultOfWorker result → IsSamePatcher p p1 → PatchesOnce told size count fate (store_answer result) p p1 → PatchStepsBy told size result g v n (Created t2 p2 s2)
    patch-steps (Ok true) sound still is =
        patcher-steps (IsPatchOf v) (patched-unspent true p p1 is) (patched-told (Ok true) p p1 is) (patch_keeps_whole told size count fate g v n t p p1 s (Ok true) up.whole still is (met-fronts told size t t2 p1 p2 s s2 met empty))
    patch-steps (Ok false) sound still is =
        (patcher-steps IsNone (patched-unspent false p p1 is) (patched-told (Ok false) p p1 is) (patch_keeps_whole told size count fate g v n t p p1 s (Ok false) up.whole still is (met-fronts told size t t2 p1 p2 s s2 met empty)), none-ahead is)
    patch-steps (Err Disk) sound still is =
        let goes = patched-told (Err store.Disk) p p1 is in
        patcher-fails (IsPatchOf v) goes
        (told-so (told p1.side.image.disk) (goes (image-told t p up.tell)) (patch_keeps_whole told size count fate g v n t p p1 s (Err store.Disk) up.whole still is (met-fronts told size t t2 p1 p2 s s2 met empty)))
    patch-steps (Err Memory) sound still is = tt
    patch-steps (Err Outlet) sound still is = sound
    patch-steps (Err (Damaged disk place)) sound still is = sound

    pub settle-steps : (result : Result (Unit {0}) NodeFault) → IsFaultOfWorker result → IsSamePatcher p p1 → SettlesOnce told size count fate (store_answer result) p p1 → SettleStepsBy told size result g v n (Created t2 p2 s2)
    settle-steps (Ok x) sound still is = patcher-steps (IsSync v) is.takes.unspent (settled-told (Ok x) p p1 is) (sync_keeps_whole told size count fate g v n t p p1 s (Ok x) up.whole still is)
    settle-steps (Err Disk) sound still is =
        let goes = settled-told {T = Unit {0}} (Err store.Disk) p p1 is in
        patcher-fails IsNone goes (told-so (told p1.side.image.disk) (goes (image-told t p up.tell)) (sync_keeps_whole told size count fate g v n t p p1 s (Err store.Disk) up.whole still is))
    settle-steps (Err Memory) sound still is = tt
    settle-steps (Err Outlet) sound still is = sound
    settle-steps (Err (Damaged disk place)) sound still is = sound

    -- the disks, which a meeting doesn't call
    pub patch-disks-met : (result : Result Bool NodeFault) → IsFaultOfWorker result → PatchesOnce told size count fate (store_answer result) p p1 → DisksFailBy told count fate result (disks_apart t.side p.side) (disks_apart t2.side p2.side)
    patch-disks-met result sound is = subst (DisksFailBy told count fate result (disks_apart t.side p.side)) (sym (met-disks told size t t2 p1 p2 s s2 met)) (patch-disks result t p p1 sound is)

    pub settle-disks-met : (result : Result (Unit {0}) NodeFault) → IsFaultOfWorker result → SettlesOnce told size count fate (store_answer result) p p1 → DisksFailBy told count fate result (disks_apart t.side p.side) (disks_apart t2.side p2.side)
    settle-disks-met result sound is = subst (DisksFailBy told count fate result (disks_apart t.side p.side)) (sym (met-disks told size t t2 p1 p2 s s2 met)) (settle-disks result t p p1 sound is)
