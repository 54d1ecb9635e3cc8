-- What the calls of a visit make of the station of a node, one after the other.
use Rattle.std.proofs.Common.{◌≡◌, ℕ, ◌+◌, ◌<◌, ◌≤◌, inl, inr, ⊎_elim, List, [], ◌∷◌, ◌++◌, length, slice_index_or, slice_set, Bool, true, false, Option, Some, None, Result, Ok, Err, refl, sym, ap, subst, ◌∙◌, arith}
use Rattle.std.specs.Prelude.{OnOk}
use Rattle.std.specs.Result.{IsErrAnd}
use Rattle.std.proofs.lemmas.Bool.{cases_lt}
use Rattle.std.proofs.lemmas.List.{get_or_default, get_or-set_other, get_or-set_same, length-set}
use Rattle.ken_disk.specs.Steps.{after_syncing}
use Rattle.ken_disk.specs.Story.{Story, Follows, IsAtRest}
use Rattle.ken_model.specs.declared.messages.Out.{Out}
use Rattle.ken_model.specs.Game.{Game}
use Rattle.ken_model.specs.Network.{inputs_for, outside}
use Rattle.ken_cover.specs.Sides.{ImagePages}
use Rattle.ken_core.specs.Calls.{AreTaken, Doubt}
use Rattle.ken_core.specs.Nodes.{Node}
use Rattle.ken_core.specs.Packets.{Packet, nothing}
use Rattle.ken_core.specs.Turns.{consumed_from as count_from}
use Rattle.ken_order.specs.Consumed.{Consumed, consumed_from, place}
use Rattle.ken_store.specs.declared.disks.Disks.{Disks}
use Rattle.ken_store.specs.declared.disks.Which.{Which}
use Rattle.ken_store.specs.declared.disks.Which.TheVariants.{First, Second}
use Rattle.ken_store.specs.declared.patching.Ahead.{Ahead}
use Rattle.ken_store.specs.Ahead.{ahead_layers}
use Rattle.ken_store.specs.Answers.{disks_from}
use Rattle.ken_store.specs.Apart.{disks_apart, hand_all}
use Rattle.ken_net.specs.Puts.{Put}
use Rattle.ken_ship.specs.declared.emit.Emit.{Emit}
use Rattle.ken_ship.specs.declared.emit.Emit.TheVariants.{Done, Refused, Nothing}
use Rattle.ken_ship.specs.declared.faults.NodeFault.{NodeFault}
use Rattle.ken_ship.specs.declared.faults.NodeFault.TheVariants.{Disk, Damaged, Outlet, Memory}
use Rattle.ken_ship.specs.Laws.{packets_from}
use Rattle.ken_work.specs.declared.items.Frozen.{Frozen}
use Rattle.ken_node.specs.declared.stage.Stage.{Stage}
use Rattle.ken_node.specs.declared.watched.Watched.{Watched}
use Rattle.ken_node.specs.NodeCalls.{EmitStepsBy, EmitsNone, PatchStepsBy, SendSteps, SettleStepsBy, Steps}
use Rattle.ken_work.specs.Patches.{waits_of}
use Rattle.ken_node.specs.Stages.{HasDisks, image_told, turns_in}
use Rattle.ken_node.specs.Synced.{HasMadeSync, KeepsStory}
use Rattle.ken_node.specs.Up.{IsUp}
use Rattle.ken_whole.proofs.Quietly.{emit_keeps_ahead, none_keeps, sends_keep, sync_keeps_ahead, taken_keep_ahead}
use Rattle.ken_run.specs.declared.run.Run.{Run}
use Rattle.ken_run.specs.declared.station.Station.{Station}
use Rattle.ken_run.specs.Patched.{AllVisited, Changes, HasNoInput, HasPatched, HasSettled, IsCall, IsNotRestarted, IsPatched, IsPatchedAt, IsSettledSince, KeepsImage, MaySync, SyncsOn, TriesBy, WasRestarted, WasVisited}
use Rattle.ken_run.specs.Stations.{RestartsStation}
use Rattle.ken_run.proofs.Fewer.{no-queue}

pub on-ok-all : {T E P : Type 0} (result : Result T E) → P → OnOk result P
on-ok-all (Ok x) p = p
on-ok-all (Err e) p = tt

-- ---- a node that is up

none-mapped : (items : List Ahead) → ahead_layers items ≡ [] → items ≡ []
none-mapped [] none = refl
none-mapped (a ∷ items) none = absurd cc

image-of : {D : Type 0} (w : Which) (log image other : D) → (disks_from w log image other).image ≡ image
image-of First log image other = refl
image-of Second log image other = refl

module _ {D : Type 0} (told : D → Option Story) (size : D → ℕ) (g : Game) (v : ℕ) where
  -- what waits for the image is what the node has ahead
  ahead-is : (n : Node) (stage : Stage D) → (up : IsUp told size g v n stage) → ahead_layers up.patcher.side.ahead.items ≡ n.patching.ahead
  ahead-is n stage up =
      let pages = up.whole.pages in
      let none : pages.queue ≡ [] = no-queue pages.ring up.empty.pages.all in
      let same : n.patching ≡ pages.image = pages.patching ∙ ap (λ (fs : List Frozen). hand_all (waits_of fs) pages.image) none in
      pages.apart.patches.ahead ∙ ap (λ (i : ImagePages). i.ahead) (sym same)

  pub up-patched : (n : Node) (stage : Stage D) → IsUp told size g v n stage → n.patching.ahead ≡ [] → IsPatched stage
  up-patched n stage up none = subst IsPatched (sym up.stage_is) (none-mapped up.patcher.side.ahead.items (ahead-is n stage up ∙ none))

  patched-up : (n : Node) (stage : Stage D) → IsUp told size g v n stage → IsPatched stage → n.patching.ahead ≡ []
  patched-up n stage up patched =
      let none : up.patcher.side.ahead.items ≡ [] = subst IsPatched up.stage_is patched in
      sym (ahead-is n stage up) ∙ ap ahead_layers none

  pub still-patched : (n n2 : Node) (stage stage2 : Stage D) → IsUp told size g v n stage → IsUp told size g v n2 stage2 → n2.patching.ahead ≡ n.patching.ahead → IsPatched stage → IsPatched stage2
  still-patched n n2 stage stage2 up up2 same patched = up-patched n2 stage2 up2 (same ∙ patched-up n stage up patched)

  -- where all disks are the same, so is the image's
  pub same-image : (n n2 : Node) (stage stage2 : Stage D) → IsUp told size g v n stage → IsUp told size g v n2 stage2 → ((old new : Disks D) → HasDisks old stage → HasDisks new stage2 → new ≡ old) → image_told told stage2 ≡ image_told told stage
  same-image n n2 stage stage2 up up2 same =
      let t = up.handler.side in
      let p = up.patcher.side in
      let t2 = up2.handler.side in
      let p2 = up2.patcher.side in
      let disks : disks_apart t2 p2 ≡ disks_apart t p =
      same (disks_apart t p) (disks_apart t2 p2) (subst (HasDisks (disks_apart t p)) (sym up.stage_is) refl) (subst (HasDisks (disks_apart t2 p2)) (sym up2.stage_is) refl) in
      let image : p2.image.disk ≡ p.image.disk = sym (image-of t2.which t2.log.disk p2.image.disk t2.other) ∙ ap (λ (d : Disks D). d.image) disks ∙ image-of t.which t.log.disk p.image.disk t.other in
      ap (image_told told) up2.stage_is ∙ ap told image ∙ sym (ap (image_told told) up.stage_is)

  -- no input waits where all are consumed
  pub up-no-input : (n : Node) (stage : Stage D) → IsUp told size g v n stage → length (inputs_for g v) ≤ count_from outside n.turning.turns → HasNoInput stage
  up-no-input n stage up past =
      let workers = up.whole.workers in
      let inputs : length up.handler.inputs.items ≡ length (inputs_for g v) = ap length workers.of_run.inputs in
      let count : consumed_from up.handler.order outside ≡ count_from outside n.turning.turns = ap (λ (c : Consumed). consumed_from c outside) workers.working.order ∙ workers.turns.counted.consumed outside (inr refl) in
      let none : length up.handler.inputs.items ≤ consumed_from up.handler.order outside = omega (arith, past, inputs, count) in
      subst HasNoInput (sym up.stage_is) none

-- ---- calls of a disk, one after the other

story-then : (o o2 o3 : Option Story) → KeepsStory o o2 → KeepsStory o2 o3 → KeepsStory o o3
story-then None o2 o3 one two = subst (λ (x : Option Story). KeepsStory x o3) one two
story-then (Some h) o2 o3 one two =
    let next = subst (λ (x : Option Story). KeepsStory x o3) one.1 two in
    let syncs = one.2.0 in
    let syncs2 = next.2.0 in
    let past = one.2.1 in
    let past2 = next.2.1 in
    (next.0, next.1, (omega (arith, syncs, syncs2), omega (arith, past, past2)))

-- a sync after some other calls
synced-then : (o o2 o3 : Option Story) → KeepsStory o o2 → HasMadeSync o2 o3 → Follows SyncsOn o o3
synced-then None o2 o3 one two = subst (λ (x : Option Story). HasMadeSync x o3) one two
synced-then (Some h) o2 o3 one two =
    let next = subst (λ (x : Option Story). HasMadeSync x o3) one.1 two in
    let syncs = one.2.0 in
    let past = one.2.1 in
    (next.0, next.1, subst (SyncsOn h) (sym next.2) (rests one.0, omega (arith, syncs), omega (arith, past)))
  where
    rests : (x : Story) → IsAtRest (after_syncing x).now
    rests x = record { safe = refl; none = λ place is. is; within = omega arith }

-- ---- the station that was called

module _ {D O U : Type 0} where
  module _ {A : Type 0} (v k : ℕ) (r r2 : Run D O U A) (s s2 : Station D O U) (at : k ≡ v) (low : v < length r.stations.items) (is : slice_index_or r.stations.items v s ≡ s) (stations : r2.stations.items ≡ slice_set r.stations.items k s2) where
    pub station-now : (d : Station D O U) → slice_index_or r2.stations.items v d ≡ s2
    station-now d = ap (λ (xs : List (Station D O U)). slice_index_or xs v d) (stations ∙ ap (λ (j : ℕ). slice_set r.stations.items j s2) at) ∙ get_or-set_same r.stations.items v s2 d low

    station-was : (d : Station D O U) → slice_index_or r.stations.items v d ≡ s
    station-was d = get_or_default r.stations.items v d s low ∙ is

    pub changes-at : (how : Station D O U → Station D O U → Type 0) → how s s2 → Changes how v r r2
    changes-at how holds = record {
      width = ap length stations ∙ length-set r.stations.items k s2;
      others = λ u d ne. ap (λ (xs : List (Station D O U)). slice_index_or xs u d) (stations ∙ ap (λ (j : ℕ). slice_set r.stations.items j s2) at) ∙ get_or-set_other r.stations.items v u s2 d ne;
      own = λ d. subst (λ (b : Station D O U). how (slice_index_or r.stations.items v d) b) (sym (station-now d)) (subst (λ (a : Station D O U). how a s2) (sym (station-was d)) holds);
    }

  -- ---- one call after another

  pub changes-none : {A : Type 0} (how : Station D O U → Station D O U → Type 0) (v : ℕ) (r : Run D O U A) → ((a : Station D O U) → how a a) → Changes how v r r
  changes-none how v r same = record { width = refl; others = λ u d ne. refl; own = λ d. same (slice_index_or r.stations.items v d) }

  pub changes-then : {A : Type 0} (one two both : Station D O U → Station D O U → Type 0) (v : ℕ) (old mid new : Run D O U A) → ((a b c : Station D O U) → one a b → two b c → both a c) → Changes one v old mid → Changes two v mid new → Changes both v old new
  changes-then one two both v old mid new join first second = record {
    width = second.width ∙ first.width;
    others = λ u d ne. second.others u d ne ∙ first.others u d ne;
    own = λ d. join (slice_index_or old.stations.items v d) (slice_index_or mid.stations.items v d) (slice_index_or new.stations.items v d) (first.own d) (second.own d);
  }

  pub changes-as : {A : Type 0} (one two : Station D O U → Station D O U → Type 0) (v : ℕ) (old new : Run D O U A) → ((a b : Station D O U) → one a b → two a b) → Changes one v old new → Changes two v old new
  changes-as one two v old new by is = record { width = is.width; others = is.others; own = λ d. by (slice_index_or old.stations.items v d) (slice_index_or new.stations.items v d) (is.own d) }

  pub not-restarted : (a : Station D O U) → IsNotRestarted a a
  not-restarted a = record { tries = refl; lines = refl }

  pub not-restarted-then : (a b c : Station D O U) → IsNotRestarted a b → IsNotRestarted b c → IsNotRestarted a c
  not-restarted-then a b c one two = record { tries = two.tries ∙ one.tries; lines = two.lines ∙ one.lines }

  -- what a call says of restarts, whatever it answers
  -- what a call that failed says of restarts
  pub err-still : {A : Type 0} (v : ℕ) (old new : Run D O U A) → Changes (λ a b. IsNotRestarted a b × Unit {0}) v old new → Changes IsNotRestarted v old new
  err-still v old new is = changes-as (λ a b. IsNotRestarted a b × Unit {0}) IsNotRestarted v old new (λ a b x. x.0) is

  -- and one that went well
  pub ok-still : {A : Type 0} (how : Station D O U → Station D O U → Type 0) (v : ℕ) (old new : Run D O U A) → Changes (λ a b. IsNotRestarted a b × how a b) v old new → Changes IsNotRestarted v old new
  ok-still how v old new is = changes-as (λ a b. IsNotRestarted a b × how a b) IsNotRestarted v old new (λ a b x. x.0) is

  pub still-then : {A : Type 0} (v : ℕ) (old mid new : Run D O U A) → Changes IsNotRestarted v old mid → Changes IsNotRestarted v mid new → Changes IsNotRestarted v old new
  still-then v old mid new one two = changes-then IsNotRestarted IsNotRestarted IsNotRestarted v old mid new not-restarted-then one two

  pub call-broken : {A T E : Type 0} (P : E → Type 0) (result : Result T E) (how : Station D O U → Station D O U → Type 0) (v : ℕ) (old new : Run D O U A) → IsErrAnd result P → Changes IsNotRestarted v old new → IsCall result how v old new
  call-broken P (Ok x) how v old new broken is = absurd broken
  call-broken P (Err e) how v old new broken is = changes-as IsNotRestarted (λ a b. IsNotRestarted a b × Unit {0}) v old new (λ a b x. (x, tt)) is

  -- ---- restarts

  pub tries-by : (told : Watched D → Option Story) (size : Watched D → ℕ) (g : Game) (v : ℕ) (given : List Packet) (n : Node) (doubt : Doubt) (old new : Station D O U) (result : Result (Unit {0}) NodeFault) → RestartsStation told size result g v given n doubt old new → TriesBy result old new
  tries-by told size g v given n doubt old new (Ok x) b =
      let tries = b.1.2 in
      let again = b.1.0 in
      let count : b.0 ≡ length (turns_in new.node.stage) = again.count ∙ ap length (sym (ap turns_in again.stage_is ∙ again.whole.workers.turns.kept)) in
      record { tries = omega (arith, tries); line = b.1.1 ∙ ap (λ (n : ℕ). old.lines.items ++ n ∷ []) count }
  tries-by told size g v given n doubt old new (Err Disk) b = let tries = b.2 in (omega (arith, tries), b.1)
  tries-by told size g v given n doubt old new (Err Memory) b = tt
  tries-by told size g v given n doubt old new (Err Outlet) b = tt
  tries-by told size g v given n doubt old new (Err (Damaged disk place)) b = tt

  -- restarts that failed, or none
  abbrev pub MayHaveTried : Station D O U → Station D O U → Type 0
  MayHaveTried old new = (old.restarts ≤ new.restarts) × (new.lines.items ≡ old.lines.items)

  pub none-tried : (a : Station D O U) → MayHaveTried a a
  none-tried a = (omega arith, refl)

  pub tried-more : (a b c : Station D O U) → MayHaveTried a b → (b.restarts < c.restarts) × (c.lines.items ≡ b.lines.items) → MayHaveTried a c
  tried-more a b c one two =
      let x = one.0 in
      let y = two.0 in
      (omega (arith, x, y), two.1 ∙ one.1)

  pub tried-last : (a b c : Station D O U) → MayHaveTried a b → WasRestarted b c → WasRestarted a c
  tried-last a b c one two =
      let x = one.0 in
      let y = two.tries in
      record { tries = omega (arith, x, y); line = two.line ∙ ap (λ (ns : List ℕ). ns ++ length (turns_in c.node.stage) ∷ []) one.1 }

  -- ---- a visit

  module _ (told : Watched D → Option Story) where
    pub may-sync : (a : Station D O U) → MaySync told a a
    may-sync a = by (image_told told a.node.stage)
      where
        by : (o : Option Story) → KeepsStory o o
        by None = refl
        by (Some h) = (h, refl, (omega arith, omega arith))

    pub same-may-sync : (a b : Station D O U) → image_told told b.node.stage ≡ image_told told a.node.stage → MaySync told a b
    same-may-sync a b same = subst (λ (o : Option Story). KeepsStory (image_told told a.node.stage) o) (sym same) (may-sync a)

    pub may-sync-then : (a b c : Station D O U) → MaySync told a b → MaySync told b c → MaySync told a c
    may-sync-then a b c one two = story-then (image_told told a.node.stage) (image_told told b.node.stage) (image_told told c.node.stage) one two

    module _ (a b c d : Station D O U) where
      pub settled-since : MaySync told a b → HasPatched told b c → HasSettled told c d → IsSettledSince told a d
      settled-since turns pages settles = record {
        patched = settles.patched pages.patched;
        synced = synced-then (image_told told a.node.stage) (image_told told c.node.stage) (image_told told d.node.stage) (may-sync-then a b c turns pages.syncs) settles.synced;
      }

    pub settled-then : (a b c : Station D O U) → IsSettledSince told a b → KeepsImage told b c → IsSettledSince told a c
    settled-then a b c one two = record {
      patched = two.patched one.patched;
      synced = subst (λ (o : Option Story). Follows SyncsOn (image_told told a.node.stage) o) (sym two.same) one.synced;
    }

    pub keeps-image : (a : Station D O U) → KeepsImage told a a
    keeps-image a = record { same = refl; patched = λ is. is }

    pub keeps-image-then : (a b c : Station D O U) → KeepsImage told a b → KeepsImage told b c → KeepsImage told a c
    keeps-image-then a b c one two = record { same = two.same ∙ one.same; patched = λ is. two.patched (one.patched is) }

    -- a call that went well, with the restarts beside
    abbrev pub Went : (Station D O U → Station D O U → Type 0) → Station D O U → Station D O U → Type 0
    Went how a b = IsNotRestarted a b × how a b

    pub went-then : {A : Type 0} (one two both : Station D O U → Station D O U → Type 0) (v : ℕ) (old mid new : Run D O U A) → ((a b c : Station D O U) → one a b → two b c → both a c) → Changes (Went one) v old mid → Changes (Went two) v mid new → Changes (Went both) v old new
    went-then one two both v old mid new join first second =
        changes-then (Went one) (Went two) (Went both) v old mid new (λ a b c x y. (not-restarted-then a b c x.0 y.0, join a b c x.1 y.1)) first second

    -- no page waits after it
    pub patched-too : {A : Type 0} (v : ℕ) (old new : Run D O U A) → Changes (Went (MaySync told)) v old new → IsPatchedAt v new → Changes (Went (HasPatched told)) v old new
    patched-too v old new is none = record {
      width = is.width;
      others = is.others;
      own = λ d. let own = is.own d in (own.0, record { syncs = own.1; patched = none d });
    }

    -- turns, and then pages
    abbrev TwoDone : Station D O U → Station D O U → Type 0
    TwoDone a c = (b : Station D O U) × (MaySync told a b × HasPatched told b c)

    -- all calls of a visit
    pub work-called : {A : Type 0} (v : ℕ) (r1 r2 r3 r4 r5 r6 r7 : Run D O U A) (result : Result (Unit {0}) NodeFault) → Changes (Went (MaySync told)) v r1 r2 → Changes (Went (HasPatched told)) v r2 r3 → Changes (Went (HasSettled told)) v r3 r4 → Changes (Went (KeepsImage told)) v r4 r5
        → Changes (Went (KeepsImage told)) v r5 r6 → IsCall result (KeepsImage told) v r6 r7 → IsCall result (IsSettledSince told) v r1 r7
    work-called v r1 r2 r3 r4 r5 r6 r7 result turns pages settles sends hears outputs = by result outputs
      where
        two : Changes (Went TwoDone) v r1 r3
        two = went-then (MaySync told) (HasPatched told) TwoDone v r1 r2 r3 (λ a b c x y. (b, (x, y))) turns pages

        settled : Changes (Went (IsSettledSince told)) v r1 r4
        settled = went-then TwoDone (HasSettled told) (IsSettledSince told) v r1 r3 r4 (λ a c d x y. settled-since a x.0 c d x.1.0 x.1.1 y) two settles

        posted : Changes (Went (IsSettledSince told)) v r1 r5
        posted = went-then (IsSettledSince told) (KeepsImage told) (IsSettledSince told) v r1 r4 r5 settled-then settled sends

        heard : Changes (Went (IsSettledSince told)) v r1 r6
        heard = went-then (IsSettledSince told) (KeepsImage told) (IsSettledSince told) v r1 r5 r6 settled-then posted hears

        by : (r : Result (Unit {0}) NodeFault) → IsCall r (KeepsImage told) v r6 r7 → IsCall r (IsSettledSince told) v r1 r7
        by (Ok x) last = went-then (IsSettledSince told) (KeepsImage told) (IsSettledSince told) v r1 r6 r7 settled-then heard last
        by (Err e) last =
            changes-then (Went (IsSettledSince told)) (λ a b. IsNotRestarted a b × Unit {0}) (λ a b. IsNotRestarted a b × Unit {0}) v r1 r6 r7 (λ a b c x y. (not-restarted-then a b c x.0 y.0, tt)) heard last

    -- a visit that ends with a restart
    pub restart-visited : {A E : Type 0} (v : ℕ) (old mid new : Run D O U A) (result : Result (Unit {0}) E) → Changes IsNotRestarted v old mid → OnOk result (Changes WasRestarted v mid new) → OnOk result (Changes (WasVisited told) v old new)
    restart-visited v old mid new (Ok x) still was =
        changes-then IsNotRestarted WasRestarted (WasVisited told) v old mid new (λ a b c one two. let e = one.tries in inl (tried-last a b c (omega (arith, e), one.lines) two)) still was
    restart-visited v old mid new (Err e) still was = tt

    -- ---- a pass

    -- the nodes below this one were visited, and the stations of the others are as they were
    pub record VisitedBelow {A : Type 0} (n : ℕ) (old new : Run D O U A) : Type 0 where
      pub width : length new.stations.items ≡ length old.stations.items
      pub done : (v : ℕ) (d : Station D O U) → v < n → WasVisited told (slice_index_or old.stations.items v d) (slice_index_or new.stations.items v d)
      pub left : (v : ℕ) (d : Station D O U) → n ≤ v → slice_index_or new.stations.items v d ≡ slice_index_or old.stations.items v d

    pub visited-none : {A : Type 0} (r : Run D O U A) → VisitedBelow 0 r r
    visited-none r = record { width = refl; done = λ v d low. absurd (omega (arith, low)); left = λ v d high. refl }

    pub visited-more : {A : Type 0} (n : ℕ) (old mid new : Run D O U A) → VisitedBelow n old mid → Changes (WasVisited told) n mid new → VisitedBelow (n + 1) old new
    visited-more n old mid new below one = record {
      width = one.width ∙ below.width;
      done = λ v d low. ⊎_elim
          (λ (less : v < n). subst (λ (b : Station D O U). WasVisited told (slice_index_or old.stations.items v d) b) (sym (one.others v d (λ e. absurd (omega (arith, less, e))))) (below.done v d less))
          (λ (high : n ≤ v).
          let here : v ≡ n = omega (arith, low, high) in
          subst (λ (u : ℕ). WasVisited told (slice_index_or old.stations.items u d) (slice_index_or new.stations.items u d)) (sym here)
          (subst (λ (a : Station D O U). WasVisited told a (slice_index_or new.stations.items n d)) (below.left n d (omega arith)) (one.own d)))
          (cases_lt v n);
      left = λ v d high. one.others v d (λ e. absurd (omega (arith, high, e))) ∙ below.left v d (omega (arith, high));
    }

    pub visited-all : {A : Type 0} (n : ℕ) (old new : Run D O U A) → VisitedBelow n old new → length old.stations.items ≤ n → AllVisited told old new
    visited-all n old new below most = record { width = below.width; each = λ v d low. below.done v d (omega (arith, low, most)) }

-- ---- what each call says

module _ {D O U : Type 0} (told : Watched D → Option Story) (size : Watched D → ℕ) (g : Game) (v : ℕ) (n : Node) (s s2 : Station D O U) (up : IsUp told size g v n s.node.stage) where
  pub patch-patched : (result : Result Bool NodeFault) → result ≡ Ok false → PatchStepsBy told size result g v n s2.node.stage → IsPatched s2.node.stage
  patch-patched (Ok true) was p = absurd (cc)
  patch-patched (Ok false) was p =
      let steps = p.0 in
      let all : steps.after ≡ n = none_keeps g v [] n steps.after nothing steps.call in
      up-patched told size g v steps.after s2.node.stage steps.up (ap (λ (x : Node). x.patching.ahead) all ∙ p.1)
  patch-patched (Err fault) was p = absurd (cc)

  pub settle-settled : (result : Result (Unit {0}) NodeFault) → SettleStepsBy told size result g v n s2.node.stage → OnOk result (HasMadeSync (image_told told s.node.stage) (image_told told s2.node.stage)) → OnOk result (HasSettled told s s2)
  settle-settled (Ok x) p made = record {
    synced = made;
    patched = still-patched told size g v n p.after s.node.stage s2.node.stage up p.up (sync_keeps_ahead g v [] n p.after nothing p.call);
  }
  settle-settled (Err fault) p made = tt

  -- calls that touch no disk
  abbrev SameDisks : Type 0
  SameDisks = (old new : Disks (Watched D)) → HasDisks old s.node.stage → HasDisks new s2.node.stage → new ≡ old

  untouched : SameDisks → (n2 : Node) → IsUp told size g v n2 s2.node.stage → n2.patching.ahead ≡ n.patching.ahead → KeepsImage told s s2
  untouched disks n2 up2 same = record {
    same = same-image told size g v n n2 s.node.stage s2.node.stage up up2 disks;
    patched = still-patched told size g v n n2 s.node.stage s2.node.stage up up2 same;
  }

  pub send-keeps : {T E : Type 0} (result : Result T E) (put : List Put → Type 0) → SameDisks → OnOk result (SendSteps told size g v n put s2.node.stage) → OnOk result (KeepsImage told s s2)
  send-keeps (Ok x) put disks p = untouched disks p.steps.after p.steps.up (ap (λ (x : Node). x.patching.ahead) (sends_keep g v [] n p.steps.after p.out p.steps.call))
  send-keeps (Err e) put disks p = tt

  pub hear-keeps : (given : List (List ℕ)) (packets : List Packet) → SameDisks → Steps told size g v n given [] (AreTaken v packets) nothing s2.node.stage → KeepsImage told s s2
  hear-keeps given packets disks p = untouched disks p.after p.up (taken_keep_ahead g v (packets_from g.nodes given) n p.after nothing packets p.call)

  none-emitted : (took : List Out → Type 0) → SameDisks → EmitsNone told size g v n took s.node.stage s2.node.stage → KeepsImage told s s2
  none-emitted took disks e = untouched disks e.steps.after e.steps.up (ap (λ (x : Node). x.patching.ahead) (none_keeps g v [] n e.steps.after nothing e.steps.call))

  pub emit-keeps : (took : List Out → Type 0) (result : Result Emit NodeFault) → SameDisks → EmitStepsBy told size result g v n took s.node.stage s2.node.stage → OnOk result (KeepsImage told s s2)
  emit-keeps took (Ok (Done number)) disks e = untouched disks e.steps.after e.steps.up (emit_keeps_ahead g v [] n e.steps.after (record { puts = []; outs = e.out ∷ [] }) e.steps.call)
  emit-keeps took (Ok Refused) disks e = none-emitted took disks e.0
  emit-keeps took (Ok Nothing) disks e = none-emitted took disks e.0
  emit-keeps took (Err fault) disks e = tt
