-- A node that wasn't created may be restarted.
use Rattle.std.proofs.Common.{◌≡◌, ℕ, ◌*◌, List, [], length, take, false, refl, sym, ap, subst, ◌∙◌, ⊎_elim, inl, arith, Option, Some, None, Result}
use Rattle.ken_disk.specs.Fates.{Fate}
use Rattle.ken_disk.specs.Story.{Story, IsAtRest, IsImage}
use Rattle.ken_disk.proofs.Images.{image_at_rest}
use Rattle.ken_disk.proofs.Since.{now_too}
use Rattle.ken_model.specs.Game.{Game}
use Rattle.ken_model.specs.Layout.{first_heap}
use Rattle.ken_model.specs.Limits.{IsWithinLimits}
use Rattle.ken_model.specs.Network.{empty_heap}
use Rattle.ken_model.proofs.First.{first_is_empty}
use Rattle.ken_log.specs.Mounts.{mount_of}
use Rattle.ken_log.specs.Mounts as mounts
use Rattle.ken_pages.specs.Paged.{page_of}
use Rattle.ken_cover.specs.Covers.{IsPossible}
use Rattle.ken_cover.proofs.Keeps.{start_is_covered}
use Rattle.ken_core.specs.Calls.{no_doubt}
use Rattle.ken_core.specs.Nodes.{first_node, heap_pages}
use Rattle.ken_core.specs.Packets.{Packet}
use Rattle.ken_store.specs.declared.disks.Which.TheVariants.{First}
use Rattle.ken_store.specs.declared.faults.StoreFault.{StoreFault}
use Rattle.ken_store.specs.Creations.{Creates, HoldsFirst, first_header}
use Rattle.ken_store.specs.Numbers.{no_numbers}
use Rattle.ken_store.proofs.Creating.{owned}
use Rattle.ken_work.specs.declared.parts.Parts.{Parts}
use Rattle.ken_node.specs.declared.stage.Stage.{Stage}
use Rattle.ken_node.specs.declared.stage.Stage.TheVariants.{Uncreated}
use Rattle.ken_whole.specs.New.{owner_of}
use Rattle.ken_node.specs.Down.{AreReady, IsDown, IsSound, Left, MountedLog, TellsNode, a_log, nothing}
use Rattle.ken_node.specs.DownLaws.{CreationGoesDown}
use Rattle.ken_work.specs.First.{AreFirst, IsNewRing}
use Rattle.ken_work.specs.Meeting.{IsEmptied}
use Rattle.ken_work.specs.News.{AreInputs}
use Rattle.ken_app.specs.Limits.{first}
use Rattle.ken_work.proofs.Finding.{some_of}
use Rattle.ken_whole.proofs.InputsOf.{inputs_are}
use Rattle.ken_whole.proofs.NewWhole.{first-reads, first-sent, first-state, heap-sized, none-counted}
use Rattle.ken_whole.proofs.Paced.{paced-first}
use Rattle.std.proofs.lemmas.List.{length-replicate}
use Rattle.ken_links.specs.declared.push_end.PushEnd.{PushEnd}
use Rattle.ken_links.specs.declared.pop_end.PopEnd.{PopEnd}
use Rattle.ken_store.specs.Turning.{IsPassed}
use Rattle.ken_store.proofs.Mounted.{front_none}

-- ---- what a first log tells

abbrev first_log : Game → ℕ → MountedLog
first_log g v = record { head = first_header (owner_of g v); base = None; records = [] }

first-sound : (g : Game) (v : ℕ) → IsWithinLimits g → IsSound g v (first_node g)
first-sound g v limits = record {
  up = refl;
  own = [];
  turns = refl;
  covers = start_is_covered (heap_pages g) (first_heap (heap_pages g)) (let sized = heap-sized g limits in (first_is_empty (heap_pages g) sized.0 sized.1).size);
  value = empty_heap g.size;
  reads = first-reads g limits;
  comes = first;
}

first-told : (g : Game) (v : ℕ) → TellsNode g v (first_node g) (first_log g v)
first-told g v = record {
  numbers = no_numbers;
  numbers_are = refl;
  counted = none-counted v;
  live = refl;
  state = first-state g v;
  sent = first-sent g v;
  width = length-replicate {A = ℕ} g.nodes 0;
  paced = paced-first (owner_of g v);
}

first-possible : (g : Game) (image : List ℕ) → IsWithinLimits g → HoldsFirst (heap_pages g) image → IsPossible (first_node g).patching (take g.size image)
first-possible g image limits holds =
    let sized : 256 * heap_pages g ≡ g.size = sym (heap-sized g limits).2 in
    let same : take g.size image ≡ first_heap (heap_pages g) = ap (λ (k : ℕ). take k image) (sym sized) ∙ holds.holds in
    record { size = ap length same; same = λ p shut. ap (λ (l : List ℕ). page_of l p) same }

-- ---- what it is made of

new-emptied : {T : Type 0} (push : PushEnd T) (pop : PopEnd T) → IsNewRing push pop → IsEmptied push pop
new-emptied push pop new = record { all = new.none_popped ∙ sym new.none_pushed; free_now = let is = new.all_free in omega (arith, is) }

first-ready : (g : Game) (v : ℕ) (x : Parts) → IsWithinLimits g → AreFirst g v x → AreReady g v x
first-ready g v x limits is = record {
  node = is.node;
  nodes = is.nodes;
  size = is.size;
  cap = is.cap;
  inputs = is.inputs;
  given = subst (λ (k : ℕ). AreInputs k x.inputs.items) (sym is.node) (subst (AreInputs v) (sym is.inputs) (inputs_are g v limits));
  room = is.room;
  pages = (is.pages.ring, new-emptied x.pages.0 x.pages.1 is.pages);
  settled = (is.settled.ring, new-emptied x.settled.0 x.settled.1 is.settled);
  sealed = (is.sealed.ring, new-emptied x.sealed x.sends.sealed is.sealed);
  progress = (is.progress.ring, new-emptied x.sends.told x.progress is.progress);
  sender = is.sender;
  receivers = is.receivers;
}

-- ---- what a creation that failed leaves

module _ (g : Game) (v : ℕ) (given : List Packet) (limits : IsWithinLimits g) (T : Type 0) (result : Result T StoreFault) (l i s l2 i2 : Story) (creates : Creates (owner_of g v) result l i s l2 i2)
    (log_rests : IsAtRest l.now) (log_none : mount_of l.now.seen ≡ mounts.Unformatted) where
  creation-leaves : (log image second : List ℕ) → IsImage l2.now log → IsImage i2.now image → mount_of second ≡ mounts.Unformatted → Left g v given (first_node g) no_doubt log image second
  creation-leaves log image second in_log in_image none = ⊎_elim
      (λ same.
      let log_is : log ≡ l.now.seen = image_at_rest l.now log_rests log (subst (λ (x : Story). IsImage x.now log) same in_log) in
      nothing refl refl (ap mount_of log_is ∙ log_none) none)
      (λ holds. ⊎_elim
      (λ no_log. nothing refl refl no_log none)
      (λ whole. a_log false (first_node g) (first_log g v) refl tt (first-sound g v limits) (first-told g v)
      (record { which = First; mounts = whole; owned = owned (owner_of g v); other = subst (IsPassed (owner_of g v) (first_header (owner_of g v))) (sym (front_none second none)) tt })
      (first-possible g image limits (holds image in_image)))
      (creates.logs.each log (now_too l l2 log creates.logs.on in_log)))
      creates.order

module _ {D : Type 0} (told : D → Option Story) (size count : D → ℕ) (fate : D → Option Fate) where
  pub creation_goes_down : CreationGoesDown told size count fate
  creation_goes_down g v given fault old stage creation rests none before after =
      let u = creation.err in
      let is : Stage D = Uncreated creation.disks u.parts in
      subst (λ (x : Stage D). IsDown told g v given (first_node g) no_doubt x) (sym u.stage_is)
      (record {
        limits = u.limits;
        known = u.known;
        of_node = first-ready g v u.parts u.limits u.first;
        turns = u.first.turns;
        disks = creation.disks;
        has = refl;
        tell = after;
        leaves = λ l2 tl2 i2 ti2 s2 ts2. λ log image second in_log in_image in_second. leaves l2 i2 s2 tl2 ti2 ts2 log image second in_log in_image in_second;
        either = inl u.first;
      })
    where
      leaves : (l2 i2 s2 : Story) → told creation.disks.log ≡ Some l2 → told creation.disks.image ≡ Some i2 → told creation.disks.second ≡ Some s2 → (log image second : List ℕ) → IsImage l2.now log → IsImage i2.now image → IsImage s2.now second
          → Left g v given (first_node g) no_doubt log image second
      leaves l2 i2 s2 tl2 ti2 ts2 log image second in_log in_image in_second =
          let l = some_of (told old.log) before.0 in
          let i = some_of (told old.image) before.1 in
          let ts : told old.second ≡ Some s2 = ap told (sym creation.second) ∙ ts2 in
          let creates = creation.creates l.0 l.1 i.0 i.1 s2 ts l2 tl2 i2 ti2 in
          let unformatted = none l.0 l.1 s2 ts in
          let second_is : second ≡ s2.now.seen = image_at_rest s2.now (rests.second s2 ts) second in_second in
          creation-leaves g v given creation.err.limits _ _ l.0 i.0 s2 l2 i2 creates (rests.log l.0 l.1) unformatted.0 log image second in_log in_image (ap mount_of second_is ∙ unformatted.1)
