-- The creation and the restart of a node, and how often the disks of its logs were synced.
use Rattle.std.proofs.Common.{◌≡◌, ℕ, ◌+◌, ◌*◌, ◌≤◌, ⊎_elim, List, [], refl, sym, ap, subst, ◌∙◌, arith, Option, Some, None, Result, Ok, Err}
use Rattle.std.specs.Prelude.{IsSome}
use Rattle.ken_disk.specs.Fates.{Fate}
use Rattle.ken_disk.specs.Story.{Story, IsAtRest, IsImage, Tells}
use Rattle.ken_disk.proofs.Images.{image_at_rest}
use Rattle.ken_disk.proofs.Since.{now_too}
use Rattle.ken_disk.proofs.Told.{by_none, some_is, weakened}
use Rattle.ken_model.specs.Game.{Game}
use Rattle.ken_log.specs.Mounts.{mount_of}
use Rattle.ken_log.specs.Mounts as mounts
use Rattle.ken_order.specs.Consumed.{Consumed}
use Rattle.ken_store.specs.declared.disks.Disks.{Disks}
use Rattle.ken_store.specs.declared.disks.Which.{Which}
use Rattle.ken_store.specs.declared.disks.Which.TheVariants.{First, Second}
use Rattle.ken_store.specs.declared.faults.StoreFault.{StoreFault}
use Rattle.ken_store.specs.declared.faults.StoreFault.TheVariants as store
use Rattle.ken_store.specs.declared.numbers.Numbers.{Numbers}
use Rattle.ken_store.specs.declared.owner.Owner.{Owner}
use Rattle.ken_store.specs.declared.store.Store.{Store}
use Rattle.ken_store.specs.declared.turning.TurnSide.{TurnSide}
use Rattle.ken_store.specs.Answers.{AreAtRest, AreUnformatted, TellsAll, disks_from, disks_in}
use Rattle.ken_store.specs.Apart.{disks_apart}
use Rattle.ken_store.specs.Creations.{CallsLog, Creates, FailsBy, MayFormat, TellsStill, first_header}
use Rattle.ken_store.specs.Numbers.{no_numbers}
use Rattle.ken_store.specs.Reads.{AreSame, Fails, IsSame, ReadsDisks}
use Rattle.ken_store.specs.Work.{HaveWorked, MayHaveChanged}
use Rattle.ken_store.proofs.Creating.{owned}
use Rattle.ken_store.proofs.Worked.{creation_works}
use Rattle.ken_ship.specs.declared.faults.NodeFault.{NodeFault}
use Rattle.ken_ship.specs.declared.faults.NodeFault.TheVariants.{Disk, Damaged, Outlet, Memory}
use Rattle.ken_ship.specs.declared.worker.SendWorker.{SendWorker}
use Rattle.ken_work.specs.declared.parts.Parts.{Parts}
use Rattle.ken_work.specs.declared.patcher.PatchWorker.{PatchWorker}
use Rattle.ken_node.specs.declared.stage.Stage.{Stage}
use Rattle.ken_node.specs.declared.stage.Stage.TheVariants.{Created}
use Rattle.ken_work.specs.declared.worker.TurnWorker.{TurnWorker}
use Rattle.ken_work.specs.Parts.{AreOver}
use Rattle.ken_whole.specs.New.{owner_of}
use Rattle.ken_node.specs.Down.{AreTold, Finds, MountedLog}
use Rattle.ken_work.specs.First.{AreFirst}
use Rattle.ken_node.specs.NodeCalls.{UnlessMemory}
use Rattle.ken_node.specs.Restarting.{HaveCounts, LeaveLess}
use Rattle.ken_node.specs.Stages.{HasDisks, owner_in}
use Rattle.ken_node.specs.Synced.{IsSynced, KeepSyncs, KeepsSyncs, LeavesSynced}
use Rattle.ken_node.proofs.CreationCalls.{format-unit}
use Rattle.ken_node.proofs.Fresh.{has-one}
use Rattle.ken_node.proofs.Recovered.{read-less, some-is}
use Rattle.ken_node.proofs.Restarted.{was-told}
use Rattle.ken_node.proofs.Synced.{no-log, one-found, same-numbers, worked-less}
use Rattle.ken_store.specs.Turning.{IsPassed}
use Rattle.ken_store.proofs.Mounted.{front_none}

-- ---- a creation

-- a crash leaves a log on a disk
pub record LeavesOne {D : Type 0} (told : D → Option Story) (disk : D) : Type 0 where
  pub story : Story
  pub is_told : told disk ≡ Some story
  pub image : List ℕ
  pub left : IsImage story.now image
  pub there : mount_of image ≡ mounts.Unformatted → ⊥

module _ {D : Type 0} (told : D → Option Story) (count : D → ℕ) (o : Owner) (old new other : D) (none : Tells (told old) (λ h. IsAtRest h.now × (mount_of h.now.seen ≡ mounts.Unformatted))) where
  -- so it saw calls
  saw-calls : LeavesOne told new → told new ≡ told old → ⊥
  saw-calls one same =
      let un = none one.story (sym same ∙ one.is_told) in
      one.there (ap mount_of (image_at_rest one.story.now un.0 one.image one.left) ∙ un.1)

  nothing-worked : HaveWorked told count 0 old other
  nothing-worked h th s ts = omega arith

  -- after Ok it has three syncs, and after Disk two and a fault
  pub created-work : (T : Type 0) (x : T) → LeavesOne told new → CallsLog told count o (Ok x) old new → HaveWorked told count 3 new other
  created-work T x one calls = ⊎_elim
      (λ same. absurd (saw-calls one same.0))
      (λ made.
      let works = creation_works told count (Ok tt) o old new other none (weakened (MayFormat o (Ok x)) (MayFormat {T = Unit {0}} o (Ok tt)) (told old) (told new) made.0 (λ h s is was. format-unit o (Ok x) h s was)) made.1 in
      works.ok 0 (omega arith) nothing-worked)
      calls

  pub failed-work : (T : Type 0) → LeavesOne told new → CallsLog {T = T} told count o (Err store.Disk) old new → HaveWorked told count 3 new other
  failed-work T one calls = ⊎_elim
      (λ same. absurd (saw-calls one same.0))
      (λ made.
      let works = creation_works told count (Err store.Disk) o old new other none (weakened (MayFormat {T = T} o (Err store.Disk)) (MayFormat {T = Unit {0}} o (Err store.Disk)) (told old) (told new) made.0 (λ h s is was. format-unit {T = T} o (Err store.Disk) h s was)) made.1 in
      let changed : MayHaveChanged told count old new = λ h th x tx. (one.image, (subst (λ (y : Story). IsImage y.now one.image) (some_is one.story x (sym one.is_told ∙ tx)) one.left, λ is. one.there (is ∙ (none h th).1))) in
      works.landed refl changed 0 (omega arith) nothing-worked)
      calls

abbrev first-log : Game → ℕ → MountedLog
first-log g v = record { head = first_header (owner_of g v); base = None; records = [] }

module _ {D T : Type 0} (told : D → Option Story) (count : D → ℕ) (g : Game) (v : ℕ) (r : Result T StoreFault) (old new : Disks D) (rests : AreAtRest told old) (unformatted : AreUnformatted told old) (tell : AreTold told old)
    (creates : TellsAll told old (λ l i s. Tells (told new.log) (λ l2. Tells (told new.image) (λ i2. Creates (owner_of g v) r l i s l2 i2)))) (tells : TellsStill (told old.image) (told new.image)) (second : new.second ≡ old.second) where
  pub log-none : Tells (told old.log) (λ h. IsAtRest h.now × (mount_of h.now.seen ≡ mounts.Unformatted))
  log-none h th = let s = some-is (told old.second) tell.2 in (rests.log h th, (unformatted h th s.0 s.1).0)

  -- only the first log is found, which has no turn
  pub created-leaves : (LeavesOne told new.log → HaveWorked told count 3 new.log new.second) → LeavesSynced told count g v new
  created-leaves works l2 tl2 s2 ts2 = λ log after in_log in_after k finds m is.
      let o : Owner = owner_of g v in
      let l = some-is (told old.log) tell.0 in
      let i = some-is (told old.image) tell.1 in
      let i2 = some-is (told new.image) (tells tell.1) in
      let ts : told old.second ≡ Some s2 = ap told (sym second) ∙ ts2 in
      let made = creates l.0 l.1 i.0 i.1 s2 ts l2 tl2 i2.0 i2.1 in
      let after_is : after ≡ s2.now.seen = image_at_rest s2.now (rests.second s2 ts) after in_after in
      let no_second : mount_of after ≡ mounts.Unformatted = ap mount_of after_is ∙ (unformatted l.0 l.1 s2 ts).1 in
      ⊎_elim
      (λ (no_first : mount_of log ≡ mounts.Unformatted). absurd (no-log finds.which log after k finds.mounts no_first no_second))
      (λ (whole : mount_of log ≡ mounts.Whole (first_header o) None []).
      let there : mount_of log ≡ mounts.Unformatted → ⊥ = λ un. let none : ⊥ = cc (whole, un) in none in
      let found : Finds o log after (first-log g v) = record { which = First; mounts = whole; owned = owned o; other = subst (IsPassed o (first_header o)) (sym (front_none after no_second)) tt } in
      let numbers : no_numbers ≡ m = same-numbers o (first-log g v) k no_numbers m (one-found o log after (first-log g v) k found finds) refl is in
      let none : m.turns ≡ 0 = ap (λ (x : Numbers). x.turns) (sym numbers) in
      worked-less told count (3 + 2 * m.turns) 3 new.log new.second (omega (arith, none)) (works (record { story = l2; is_told = tl2; image = log; left = in_log; there = there })))
      (made.logs.each log (now_too l.0 l2 log made.logs.on in_log))

-- whose disks the parts of a new node tell
owner-first : (g : Game) (v : ℕ) (x : Parts) → AreFirst g v x → owner_in x ≡ owner_of g v
owner-first g v x is =
    ap (λ (n : ℕ). let o : Owner = record { node = n; nodes = x.nodes; pages = x.size } in o) is.node
    ∙ ap (λ (n : ℕ). let o : Owner = record { node = v; nodes = n; pages = x.size } in o) is.nodes
    ∙ ap (λ (n : ℕ). let o : Owner = record { node = v; nodes = g.nodes; pages = n } in o) is.size

module _ {D : Type 0} (told : D → Option Story) (count : D → ℕ) (g : Game) (v : ℕ) (x : Parts) (first : AreFirst g v x) (old new : Disks D) (rests : AreAtRest told old) (unformatted : AreUnformatted told old) (tell : AreTold told old) where
  abbrev CreatesBy : {T : Type 0} → Owner → Result T StoreFault → Type 0
  CreatesBy o r = TellsAll told old (λ l i s. Tells (told new.log) (λ l2. Tells (told new.image) (λ i2. Creates o r l i s l2 i2)))

  pub created-synced : {T : Type 0} (y : T) → CreatesBy (owner_in x) (Ok y) → TellsStill (told old.image) (told new.image) → new.second ≡ old.second → CallsLog told count (owner_in x) (Ok y) old.log new.log → LeavesSynced told count g v new
  created-synced {T} y creates tells second calls =
      let owner = owner-first g v x first in
      let now : CreatesBy (owner_of g v) (Ok y) = subst (λ (o : Owner). CreatesBy o (Ok y)) owner creates in
      created-leaves told count g v (Ok y) old new rests unformatted tell now tells second
      (λ one. created-work told count (owner_of g v) old.log new.log new.second (log-none told count g v (Ok y) old new rests unformatted tell now tells second) T y one (subst (λ (o : Owner). CallsLog told count o (Ok y) old.log new.log) owner calls))

  pub uncreated-synced : {T : Type 0} (fate : D → Option Fate) (fault : StoreFault) → CreatesBy {T = T} (owner_in x) (Err fault) → TellsStill (told old.image) (told new.image) → new.second ≡ old.second → CallsLog {T = T} told count (owner_in x) (Err fault) old.log new.log
      → FailsBy count fate {T = T} (Err fault) old new → LeavesSynced told count g v new
  uncreated-synced {T} fate store.Disk creates tells second calls fails =
      let owner = owner-first g v x first in
      let now : CreatesBy {T = T} (owner_of g v) (Err store.Disk) = subst (λ (o : Owner). CreatesBy {T = T} o (Err store.Disk)) owner creates in
      created-leaves {T = T} told count g v (Err store.Disk) old new rests unformatted tell now tells second
      (λ one.
      failed-work told count (owner_of g v) old.log new.log new.second (log-none {T = T} told count g v (Err store.Disk) old new rests unformatted tell now tells second) T one
      (subst (λ (o : Owner). CallsLog {T = T} told count o (Err store.Disk) old.log new.log) owner calls))
  uncreated-synced {T} fate store.Memory creates tells second calls fails =
      let owner = owner-first g v x first in
      let now : CreatesBy {T = T} (owner_of g v) (Err store.Memory) = subst (λ (o : Owner). CreatesBy {T = T} o (Err store.Memory)) owner creates in
      let l = some-is (told old.log) tell.0 in
      let i = some-is (told old.image) tell.1 in
      let i2 = some-is (told new.image) (tells tell.1) in
      let s = some-is (told old.second) tell.2 in
      created-leaves {T = T} told count g v (Err store.Memory) old new rests unformatted tell now tells second
      (λ one. absurd (one.there ((now l.0 l.1 i.0 i.1 s.0 s.1 one.story one.is_told i2.0 i2.1).memory refl one.image one.left)))
  uncreated-synced fate (store.Damaged disk place) creates tells second calls fails = absurd fails

-- the disks of workers over a store are the store's
pub over-disks : {D : Type 0} (x : Parts) (s : Store D) (o : Consumed) (t : TurnWorker D) (p : PatchWorker D) (w : SendWorker) → AreOver x s o t p w → disks_apart t.side p.side ≡ disks_in s
over-disks {D} x s o t p w over = ap (λ (y : TurnSide D). disks_apart y p.side) over.side ∙ ap (λ (y : PatchWorker D). disks_apart s.turns y.side) over.patches

-- ---- an answer of another kind

pub unless-with : {T : Type 0} (r : Result T NodeFault) (P Q : Type 0) → (P → Q) → UnlessMemory r P → UnlessMemory r Q
unless-with (Ok x) P Q goes holds = goes holds
unless-with (Err Disk) P Q goes holds = goes holds
unless-with (Err Memory) P Q goes holds = tt
unless-with (Err Outlet) P Q goes holds = goes holds
unless-with (Err (Damaged disk place)) P Q goes holds = goes holds

-- ---- disks that are restarted or read

kept-story : (old new : Option Story) → KeepsSyncs old new → (y : Story) → new ≡ Some y → (x : Story) × ((old ≡ Some x) × (x.now.syncs ≤ y.now.syncs))
kept-story None new keeps y is = absurd (let no : ⊥ = cc (keeps, is) in no)
kept-story (Some x) new keeps y is = (x, (refl, subst (λ (z : Story). x.now.syncs ≤ z.now.syncs) (some_is keeps.0 y (sym keeps.1 ∙ is)) keeps.2))

same-syncs : (old new : Option Story) → new ≡ old → KeepsSyncs old new
same-syncs old new is = by_none (λ (a b : Story). a.now.syncs ≤ b.now.syncs) old new is (λ a. omega arith)

module _ {D : Type 0} (told : D → Option Story) (count : D → ℕ) where
  worked-since : (n : ℕ) (a a2 b b2 : D) → KeepsSyncs (told a) (told a2) → KeepsSyncs (told b) (told b2) → count a ≤ count a2 → count b ≤ count b2 → HaveWorked told count n a b → HaveWorked told count n a2 b2
  worked-since n a a2 b b2 keeps keeps2 more more2 worked h th s ts =
      let one = kept-story (told a) (told a2) keeps h th in
      let two = kept-story (told b) (told b2) keeps2 s ts in
      let was = worked one.0 one.1.0 two.0 two.1.0 in
      let syncs = one.1.1 in
      let syncs2 = two.1.1 in
      omega (arith, was, syncs, syncs2, more, more2)

  -- a crash leaves no more of them, and no sync and no fault is forgotten
  pub record KeepWork (old new : Disks D) : Type 0 where
    pub less : LeaveLess told old new
    pub syncs : KeepSyncs told old new
    pub log : count old.log ≤ count new.log
    pub second : count old.second ≤ count new.second

  pub less-synced : (g : Game) (v : ℕ) (old new : Disks D) → KeepWork old new → LeavesSynced told count g v old → LeavesSynced told count g v new
  less-synced g v old new keeps before l el s es = λ log second in_log in_second k finds m is.
      let a = was-told (told old.log) (told new.log) keeps.less.log l el in
      let c = was-told (told old.second) (told new.second) keeps.less.second s es in
      worked-since (3 + 2 * m.turns) old.log new.log old.second new.second keeps.syncs.log keeps.syncs.second keeps.log keeps.second (before a.0 a.1.0 c.0 c.1.0 log second (a.1.1 log in_log) (c.1.1 second in_second) k finds m is)

  pub restarted-work : (old new : Disks D) → LeaveLess told old new → HaveCounts count old new → KeepSyncs told old new → KeepWork old new
  restarted-work old new less counts syncs = let log = counts.log in let second = counts.second in record { less = less; syncs = syncs; log = omega (arith, log); second = omega (arith, second) }

  module _ (fate : D → Option Fate) where
    same-work : (a b : D) → IsSame told count fate a b → KeepsSyncs (told a) (told b) × (count a ≤ count b)
    same-work a b is = let counted = is.count in (same-syncs (told a) (told b) is.story, omega (arith, counted))

    fail-work : (a b : D) → Fails told count fate a b → KeepsSyncs (told a) (told b) × (count a ≤ count b)
    fail-work a b is = (same-syncs (told a) (told b) is.story, is.count.0)

    read-both : (old new : Disks D) → LeaveLess told old new → KeepsSyncs (told old.log) (told new.log) × (count old.log ≤ count new.log) → KeepsSyncs (told old.second) (told new.second) × (count old.second ≤ count new.second) → KeepWork old new
    read-both old new less one two = record { less = less; syncs = record { log = one.0; second = two.0 }; log = one.1; second = two.1 }

    pub read-work : {T : Type 0} (r : Result T StoreFault) (old new : Disks D) → ReadsDisks told count fate r old new → KeepWork old new
    read-work (Ok x) old new reads = read-both old new (read-less told count fate (Ok x) old new reads) (same-work old.log new.log reads.log) (same-work old.second new.second reads.second)
    read-work {T} (Err (store.Damaged disk place)) old new reads = read-both old new (read-less told count fate {T = T} (Err (store.Damaged disk place)) old new reads) (same-work old.log new.log reads.log) (same-work old.second new.second reads.second)
    read-work {T} (Err store.Memory) old new reads = read-both old new (read-less told count fate {T = T} (Err store.Memory) old new reads) (same-work old.log new.log reads.log) (same-work old.second new.second reads.second)
    read-work {T} (Err store.Disk) old new reads =
        let less = read-less told count fate {T = T} (Err store.Disk) old new reads in
        ⊎_elim
        (λ a. read-both old new less (fail-work old.log new.log a.0) (same-work old.second new.second a.2))
        (λ b. ⊎_elim
        (λ a. read-both old new less (same-work old.log new.log a.0) (same-work old.second new.second a.2))
        (λ a. read-both old new less (same-work old.log new.log a.0) (fail-work old.second new.second a.2))
        b) reads

    -- what is told is told still
    pub same-tell : (old new : Disks D) → AreSame told count fate old new → AreTold told old → AreTold told new
    same-tell old new same tell =
        (subst (λ (o : Option Story). IsSome o) (sym same.log.story) tell.0, subst (λ (o : Option Story). IsSome o) (sym same.image.story) tell.1, subst (λ (o : Option Story). IsSome o) (sym same.second.story) tell.2)

-- a stage with these disks
pub stage-synced : {D : Type 0} (told : D → Option Story) (count : D → ℕ) (g : Game) (v : ℕ) (disks : Disks D) (stage : Stage D) → HasDisks disks stage → LeavesSynced told count g v disks → IsSynced told count g v stage
stage-synced told count g v disks stage has synced other had = subst (LeavesSynced told count g v) (has-one disks other stage has had) synced

-- ---- calls of a node that is up

module _ {D : Type 0} (told : D → Option Story) (count : D → ℕ) (g : Game) (v : ℕ) (stage : Stage D) (t t2 : TurnWorker D) (p p2 : PatchWorker D) (s s2 : SendWorker) (is : stage ≡ Created t p s) where
  -- the disks are the same
  pub disks-synced : disks_apart t2.side p2.side ≡ disks_apart t.side p.side → IsSynced told count g v stage → IsSynced told count g v (Created t2 p2 s2)
  disks-synced same before disks has =
      let had : IsSynced told count g v (Created t p s) = subst (IsSynced told count g v) is before in
      subst (LeavesSynced told count g v) (sym (has ∙ same)) (had (disks_apart t.side p.side) refl)

  -- those of the logs are
  pub side-synced : t2.side ≡ t.side → IsSynced told count g v stage → IsSynced told count g v (Created t2 p2 s2)
  side-synced same before disks has =
      let had : IsSynced told count g v (Created t p s) = subst (IsSynced told count g v) is before in
      subst (LeavesSynced told count g v) (sym has)
      (subst (λ (x : TurnSide D). LeavesSynced told count g v (disks_apart x p2.side)) (sym same) (by t.side.which t.side.log.disk p.side.image.disk p2.side.image.disk t.side.other (had (disks_apart t.side p.side) refl)))
    where
      by : (w : Which) (log image image2 other : D) → LeavesSynced told count g v (disks_from w log image other) → LeavesSynced told count g v (disks_from w log image2 other)
      by First log image image2 other holds = holds
      by Second log image image2 other holds = holds
