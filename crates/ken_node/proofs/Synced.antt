-- How often the disks of a node's logs were synced.
use Rattle.std.proofs.Common.{◌≡◌, ℕ, ◌+◌, ◌^◌, ◌<◌, ◌≤◌, ◌⊎◌, inl, inr, ⊎_elim, List, [], ◌∷◌, length, Bool, true, false, refl, sym, ap, subst, ◌∙◌, arith, Option, Some, Ok, Err}
use Rattle.std.proofs.lemmas.List.{length-append}
use Rattle.ken_disk.specs.Fates.{Fate}
use Rattle.ken_disk.specs.Story.{Story, IsImage}
use Rattle.ken_disk.proofs.Images.{image_at_rest, image-synced}
use Rattle.ken_disk.proofs.Told.{some_is}
use Rattle.ken_model.specs.Game.{Game}
use Rattle.ken_record.specs.declared.base.Base.{Base}
use Rattle.ken_record.specs.declared.effects.Effects.{Effects}
use Rattle.ken_record.specs.declared.header.Header.{Header}
use Rattle.ken_record.specs.declared.page.Page.{Page}
use Rattle.ken_record.specs.declared.record.Record.{Record}
use Rattle.ken_log.specs.declared.log.Log.{Log}
use Rattle.ken_log.specs.Mounts.{mount_of}
use Rattle.ken_log.specs.Mounts as mounts
use Rattle.ken_core.specs.declared.events.Told.{Told}
use Rattle.ken_core.specs.Calls.{Doubt, no_doubt, seal, turnover}
use Rattle.ken_core.specs.Nodes.{Node}
use Rattle.ken_core.specs.Packets.{Packet}
use Rattle.ken_store.specs.declared.disks.Disks.{Disks}
use Rattle.ken_store.specs.declared.disks.Which.{Which}
use Rattle.ken_store.specs.declared.disks.Which.TheVariants.{First, Second}
use Rattle.ken_store.specs.declared.faults.StoreFault.TheVariants as store
use Rattle.ken_store.specs.declared.numbers.Numbers.{Numbers}
use Rattle.ken_store.specs.declared.owner.Owner.{Owner}
use Rattle.ken_store.specs.declared.turning.TurnSide.{TurnSide}
use Rattle.ken_store.specs.Answers.{disks_from}
use Rattle.ken_store.specs.Apart.{disks_apart}
use Rattle.ken_store.specs.Logs.{front_of, log_on, other_log}
use Rattle.ken_store.specs.Recovered.{numbers_of}
use Rattle.ken_store.specs.Turning.{KeepsLog, PassesOver, Turning, IsPassed}
use Rattle.ken_store.specs.Work.{HaveWorked, MayHaveChanged}
use Rattle.ken_store.proofs.Worked.{seal_works, turnover_works}
use Rattle.ken_ship.specs.declared.worker.SendWorker.{SendWorker}
use Rattle.ken_work.specs.declared.patcher.PatchWorker.{PatchWorker}
use Rattle.ken_node.specs.declared.stage.Stage.{Stage}
use Rattle.ken_node.specs.declared.stage.Stage.TheVariants.{Created}
use Rattle.ken_work.specs.declared.worker.TurnWorker.{TurnWorker}
use Rattle.ken_whole.specs.New.{owner_of}
use Rattle.ken_node.specs.Down.{AreTold, ComesOut, Finds, IsDown, LeavesLog, LeavesNode, Left, MountedLog, a_log, nothing}
use Rattle.ken_work.specs.Sealing.{RenewsBy, SealsTurn}
use Rattle.ken_node.specs.Stages.{HasDisks}
use Rattle.ken_node.specs.Synced.{HasSynced, LeavesSynced, UpHasSynced}
use Rattle.ken_node.proofs.Fresh.{has-one}
use Rattle.ken_node.proofs.GoesDown.{finds-current, whole_goes_down}
use Rattle.ken_node.proofs.Recovered.{some-is}
use Rattle.ken_store.proofs.Mounted.{front_whole}

-- ---- one log is found

same-mounted : (a b : MountedLog) → mounts.Whole a.head a.base a.records ≡ mounts.Whole b.head b.base b.records → a ≡ b
same-mounted a b is =
    let head : a.head ≡ b.head = cc is in
    let base : a.base ≡ b.base = cc is in
    let records : a.records ≡ b.records = cc is in
    ap (λ (x : Header). let k : MountedLog = record { head = x; base = a.base; records = a.records } in k) head
    ∙ ap (λ (x : Option Base). let k : MountedLog = record { head = b.head; base = x; records = a.records } in k) base
    ∙ ap (λ (x : List Record). let k : MountedLog = record { head = b.head; base = b.base; records = x } in k) records

not-both : (o : Owner) (a b : MountedLog) (x y : List ℕ) → mount_of x ≡ mounts.Whole a.head a.base a.records → mount_of y ≡ mounts.Whole b.head b.base b.records → IsPassed o a.head (front_of y) → IsPassed o b.head (front_of x) → ⊥
not-both o a b x y is is2 older older2 =
    let one : b.head.generation < a.head.generation = (subst (IsPassed o a.head) (front_whole y b.head b.base b.records is2) older).0 in
    let two : a.head.generation < b.head.generation = (subst (IsPassed o b.head) (front_whole x a.head a.base a.records is) older2).0 in
    omega (arith, one, two)

pub one-found : (o : Owner) (log second : List ℕ) (a b : MountedLog) → Finds o log second a → Finds o log second b → a ≡ b
one-found o log second a b one two = by one.which two.which one.mounts one.other two.mounts two.other
  where
    by : (w w2 : Which) → mount_of (log_on w log second) ≡ mounts.Whole a.head a.base a.records → IsPassed o a.head (front_of (log_on (other_log w) log second))
        → mount_of (log_on w2 log second) ≡ mounts.Whole b.head b.base b.records → IsPassed o b.head (front_of (log_on (other_log w2) log second)) → a ≡ b
    by First First is older is2 older2 = same-mounted a b (sym is ∙ is2)
    by Second Second is older is2 older2 = same-mounted a b (sym is ∙ is2)
    by First Second is older is2 older2 = absurd (not-both o a b log second is is2 older older2)
    by Second First is older is2 older2 = absurd (not-both o a b second log is is2 older older2)

-- a log that is found is there
pub no-log : (which : Which) (log second : List ℕ) (k : MountedLog) → mount_of (log_on which log second) ≡ mounts.Whole k.head k.base k.records → mount_of log ≡ mounts.Unformatted → mount_of second ≡ mounts.Unformatted → ⊥
no-log First log second k is first other = let both = sym is ∙ first in absurd cc
no-log Second log second k is first other = let both = sym is ∙ other in absurd cc

-- so its numbers are one
pub same-numbers : (o : Owner) (a b : MountedLog) (n m : Numbers) → a ≡ b → numbers_of o a.head a.base a.records ≡ Ok n → numbers_of o b.head b.base b.records ≡ Ok m → n ≡ m
same-numbers o a b n m same one two =
    let both = sym one ∙ ap (λ (k : MountedLog). numbers_of o k.head k.base k.records) same ∙ two in
    cc both

-- ---- how many turns a log tells that a crash leaves

pub record TellsTurns (g : Game) (v : ℕ) (given : List Packet) (n : Node) (doubt : Doubt) (turns : ℕ) : Type 0 where
  pub landed : Bool
  pub after : Node
  pub comes : ComesOut g v given n doubt landed after
  pub counted : turns ≡ length after.turning.turns

module _ (g : Game) (v : ℕ) (given : List Packet) (n : Node) where
  pub left-tells : (doubt : Doubt) (log image second : List ℕ) → Left g v given n doubt log image second → (k : MountedLog) → Finds (owner_of g v) log second k → (m : Numbers) → numbers_of (owner_of g v) k.head k.base k.records ≡ Ok m
      → TellsTurns g v given n doubt m.turns
  left-tells doubt log image second (nothing first calm none none_second) k finds m is = absurd (no-log finds.which log second k finds.mounts none none_second)
  left-tells doubt log image second (a_log landed after held comes newest sound tells found possible) k finds m is =
      let same : tells.numbers ≡ m = same-numbers (owner_of g v) held k tells.numbers m (one-found (owner_of g v) log second held k found finds) tells.numbers_are is in
      record { landed = landed; after = after; comes = comes; counted = ap (λ (x : Numbers). x.turns) (sym same) ∙ tells.counted.turns }

  -- of a node with nothing in doubt a log is there that tells all its turns
  pub record TellsAllTurns (log second : List ℕ) : Type 0 where
    pub held : MountedLog
    pub finds : Finds (owner_of g v) log second held
    pub numbers : Numbers
    pub numbers_are : numbers_of (owner_of g v) held.head held.base held.records ≡ Ok numbers
    pub counted : numbers.turns ≡ length n.turning.turns

  pub left-tells_all : (log image second : List ℕ) → Left g v given n no_doubt log image second → (mount_of log ≡ mounts.Unformatted → mount_of second ≡ mounts.Unformatted → ⊥) → TellsAllTurns log second
  left-tells_all log image second (nothing first calm none none_second) there = absurd (there none none_second)
  left-tells_all log image second (a_log landed after held comes newest sound tells found possible) there = record {
    held = held;
    finds = found;
    numbers = tells.numbers;
    numbers_are = tells.numbers_are;
    counted = tells.counted.turns ∙ ap (λ (x : Node). length x.turning.turns) comes;
  }

  -- as many as before, where nothing or a turnover is in doubt; and where a seal is, perhaps one more
  pub calm-turns : (turns : ℕ) → TellsTurns g v given n no_doubt turns → turns ≡ length n.turning.turns
  calm-turns turns tells = tells.counted ∙ ap (λ (x : Node). length x.turning.turns) tells.comes

  turned-turns : (news : Told) (landed : Bool) (m : Node) → ComesOut g v given n (turnover news) landed m → length m.turning.turns ≡ length n.turning.turns
  turned-turns news true m comes = ap (λ (x : Node). length x.turning.turns) comes.1
  turned-turns news false m comes = ap (λ (x : Node). length x.turning.turns) comes.1

  pub turnover-turns : (news : Told) (turns : ℕ) → TellsTurns g v given n (turnover news) turns → turns ≡ length n.turning.turns
  turnover-turns news turns tells = tells.counted ∙ turned-turns news tells.landed tells.after tells.comes

  landed-turns : (from : ℕ) (draws : List ℕ) (pages : List Page) (landed : Bool) (m : Node) → ComesOut g v given n (seal from draws pages) landed m → (length m.turning.turns ≡ length n.turning.turns) ⊎ (length m.turning.turns ≡ length n.turning.turns + 1)
  landed-turns from draws pages true m comes = inr (ap (λ (x : Node). length x.turning.turns) comes.1.1 ∙ length-append n.turning.turns (_ ∷ []))
  landed-turns from draws pages false m comes = inl (ap (λ (x : Node). length x.turning.turns) comes.1.1)

  pub seal-turns : (from : ℕ) (draws : List ℕ) (pages : List Page) (turns : ℕ) → TellsTurns g v given n (seal from draws pages) turns → (turns ≡ length n.turning.turns) ⊎ (turns ≡ length n.turning.turns + 1)
  seal-turns from draws pages turns tells =
      ⊎_elim
      (λ (same : length tells.after.turning.turns ≡ length n.turning.turns). inl (tells.counted ∙ same))
      (λ (more : length tells.after.turning.turns ≡ length n.turning.turns + 1). inr (tells.counted ∙ more))
      (landed-turns from draws pages tells.landed tells.after tells.comes)

-- ---- the counts of two disks

module _ {D : Type 0} (told : D → Option Story) (count : D → ℕ) where
  pub worked-swapped : (n : ℕ) (a b : D) → HaveWorked told count n a b → HaveWorked told count n b a
  worked-swapped n a b worked s ts h th = let was = worked h th s ts in omega (arith, was)

  pub worked-less : (m n : ℕ) (a b : D) → m ≤ n → HaveWorked told count n a b → HaveWorked told count m a b
  worked-less m n a b less worked h th s ts = let was = worked h th s ts in omega (arith, was, less)

  -- whichever of the logs is current
  abbrev pub WorkedIn : ℕ → Disks D → Type 0
  WorkedIn n disks = HaveWorked told count n disks.log disks.second

  pub worked-from : (n : ℕ) (w : Which) (log image other : D) → HaveWorked told count n log other → WorkedIn n (disks_from w log image other)
  worked-from n First log image other worked = worked
  worked-from n Second log image other worked = worked-swapped n log other worked

  pub worked-to : (n : ℕ) (w : Which) (log image other : D) → WorkedIn n (disks_from w log image other) → HaveWorked told count n log other
  worked-to n First log image other worked = worked
  worked-to n Second log image other worked = worked-swapped n other log worked

  -- the counts of a handler's side
  abbrev pub WorkedAt : ℕ → TurnSide D → Type 0
  WorkedAt n side = HaveWorked told count n side.log.disk side.other

  -- a turn that is begun calls no disk
  pub begun-work : (n : ℕ) (old begun : TurnSide D) → KeepsLog old begun → WorkedAt n old → WorkedAt n begun
  begun-work n old begun same worked = subst (λ (x : Log D). HaveWorked told count n x.disk begun.other) (sym same.log) (subst (HaveWorked told count n old.log.disk) (sym same.other) worked)

  module _ (size : D → ℕ) (fate : D → Option Fate) where
    -- a turnover takes none away
    pub renewed-work : (n : ℕ) (full : Bool) (w : TurnWorker D) (mid : TurnSide D) → RenewsBy told size count fate {T = Unit {0}} full (Ok tt) w mid → WorkedAt n w.side → WorkedAt n mid
    renewed-work n true w mid is worked =
        let after : HaveWorked told count n mid.log.disk w.side.log.disk = turnover_works told count fate (Ok tt) _ _ w.side.other mid.log.disk w.side.log.disk is.log n (worked-swapped n w.side.log.disk w.side.other worked) in
        subst (HaveWorked told count n mid.log.disk) (sym is.own) after
    renewed-work n false w mid is worked = subst (WorkedAt n) (sym is.1) worked

    -- nor one that is in doubt
    pub doubted-work : (n : ℕ) (full : Bool) (w : TurnWorker D) (mid : TurnSide D) → RenewsBy told size count fate {T = Unit {0}} full (Err store.Disk) w mid → WorkedAt n w.side → WorkedAt n mid
    doubted-work n true w mid is worked =
        let after : HaveWorked told count n mid.other w.side.log.disk = turnover_works told count fate _ _ _ w.side.other mid.other w.side.log.disk is.log n (worked-swapped n w.side.log.disk w.side.other worked) in
        worked-swapped n mid.other mid.log.disk (subst (HaveWorked told count n mid.other) (sym is.own) after)
    doubted-work n false w mid is worked = absurd is.0

    -- a seal adds two
    pub sealed-work : (n : ℕ) (e : Effects) (begun new : TurnSide D) → SealsTurn told size count fate {T = Unit {0}} (Ok tt) e begun new → n + 2 < 2 ^ 64 → WorkedAt n begun → WorkedAt (n + 2) new
    sealed-work n e begun new is small worked =
        let works = seal_works told count fate (Ok tt) _ _ begun.log.disk new.log.disk begun.other is.log in
        subst (HaveWorked told count (n + 2) new.log.disk) (sym is.others.other) (works.ok n small worked)

    -- one that is in doubt adds them where a crash may leave another log
    pub unsealed-work : (n : ℕ) (e : Effects) (begun new : TurnSide D) → SealsTurn told size count fate {T = Unit {0}} (Err store.Disk) e begun new → WorkedAt n begun → WorkedAt n new
    unsealed-work n e begun new is worked =
        let works = seal_works told count fate _ _ _ begun.log.disk new.log.disk begun.other is.log in
        subst (HaveWorked told count n new.log.disk) (sym is.others.other) (works.still n worked)

    pub landed-work : (n : ℕ) (e : Effects) (begun new : TurnSide D) → SealsTurn told size count fate {T = Unit {0}} (Err store.Disk) e begun new → n + 2 < 2 ^ 64 → MayHaveChanged told count begun.log.disk new.log.disk → WorkedAt n begun → WorkedAt (n + 2) new
    landed-work n e begun new is small changed worked =
        let works = seal_works told count fate _ _ _ begun.log.disk new.log.disk begun.other is.log in
        subst (HaveWorked told count (n + 2) new.log.disk) (sym is.others.other) (works.landed refl changed n small worked)

  -- ---- a node that may be restarted

  -- what its disks have, by what a crash leaves of them
  pub leaves-by : (g : Game) (v : ℕ) (given : List Packet) (n : Node) (doubt : Doubt) (stage : Stage D) → IsDown told g v given n doubt stage → (disks : Disks D) → HasDisks disks stage
      → ((l s : Story) → told disks.log ≡ Some l → told disks.second ≡ Some s → (log second : List ℕ) → IsImage l.now log → IsImage s.now second → (k : MountedLog) → Finds (owner_of g v) log second k
      → (m : Numbers) → numbers_of (owner_of g v) k.head k.base k.records ≡ Ok m → TellsTurns g v given n doubt m.turns → HasSynced told count m.turns disks)
      → LeavesSynced told count g v disks
  leaves-by g v given n doubt stage d disks has each l tl s ts = λ log second in_log in_second k finds m is.
      let same : d.disks ≡ disks = has-one d.disks disks stage d.has has in
      let tell : AreTold told disks = subst (AreTold told) same d.tell in
      let leaves : LeavesNode told g v given n doubt disks = subst (LeavesNode told g v given n doubt) same d.leaves in
      let i = some-is (told disks.image) tell.1 in
      let left = leaves l tl i.0 i.1 s ts log i.0.now.synced second in_log (image-synced i.0.now) in_second in
      each l s tl ts log second in_log in_second k finds m is (left-tells g v given n doubt log i.0.now.synced second left k finds m is)

  pub leaves-synced : (g : Game) (v : ℕ) (given : List Packet) (n : Node) (doubt : Doubt) (stage : Stage D) → IsDown told g v given n doubt stage → (disks : Disks D) → HasDisks disks stage
      → ((turns : ℕ) → TellsTurns g v given n doubt turns → HasSynced told count turns disks) → LeavesSynced told count g v disks
  leaves-synced g v given n doubt stage d disks has each =
      leaves-by g v given n doubt stage d disks has (λ l s tl ts log second in_log in_second k finds m is tells. each m.turns tells)

  -- what was claimed of all that a crash leaves holds of a node with nothing in doubt
  pub has-synced : (g : Game) (v : ℕ) (n : Node) (t : TurnWorker D) (p : PatchWorker D) (s : SendWorker) → IsDown told g v [] n no_doubt (Created t p s) → LeavesSynced told count g v (disks_apart t.side p.side)
      → HasSynced told count (length n.turning.turns) (disks_apart t.side p.side)
  has-synced g v n t p s d synced =
      let disks : Disks D = disks_apart t.side p.side in
      let same : d.disks ≡ disks = d.has in
      let tell : AreTold told disks = subst (AreTold told) same d.tell in
      let leaves : LeavesNode told g v [] n no_doubt disks = subst (LeavesNode told g v [] n no_doubt) same d.leaves in
      let l = some-is (told disks.log) tell.0 in
      let i = some-is (told disks.image) tell.1 in
      let s = some-is (told disks.second) tell.2 in
      let left = leaves l.0 l.1 i.0 i.1 s.0 s.1 l.0.now.synced i.0.now.synced s.0.now.synced (image-synced l.0.now) (image-synced i.0.now) (image-synced s.0.now) in
      let there : mount_of l.0.now.synced ≡ mounts.Unformatted → mount_of s.0.now.synced ≡ mounts.Unformatted → ⊥ =
      ⊎_elim
      (λ (no : ⊥). absurd no)
      (λ (log : LeavesLog told d.disks).
      let now : LeavesLog told disks = subst (LeavesLog told) same log in
      now l.0 l.1 i.0 i.1 s.0 s.1 l.0.now.synced s.0.now.synced (image-synced l.0.now) (image-synced s.0.now))
      d.either in
      let all = left-tells_all g v [] n l.0.now.synced i.0.now.synced s.0.now.synced left there in
      subst (λ (k : ℕ). HasSynced told count k disks) all.counted (synced l.0 l.1 s.0 s.1 l.0.now.synced s.0.now.synced (image-synced l.0.now) (image-synced s.0.now) all.held all.finds all.numbers all.numbers_are)

pub up_has_synced : {D : Type 0} (told : D → Option Story) (size count : D → ℕ) → UpHasSynced told size count
up_has_synced {D} told size count g v n stage disks up synced has =
    let t = up.handler in
    let p = up.patcher in
    let s = up.sender in
    let at : disks ≡ disks_apart t.side p.side = subst (HasDisks disks) up.stage_is has in
    let here : HasDisks (disks_apart t.side p.side) stage = subst (HasDisks (disks_apart t.side p.side)) (sym up.stage_is) refl in
    subst (λ (d : Disks D). HasSynced told count (length n.turning.turns) d) (sym at)
    (has-synced told count g v n t p s (whole_goes_down told size g v [] n t p s up.limits up.known up.whole up.tell) (synced (disks_apart t.side p.side) here))

-- ---- a seal that landed changed what the log's disk mounts as

module _ {D : Type 0} (told : D → Option Story) (count : D → ℕ) (o : Owner) (k : MountedLog) where
  -- by which log is current
  pub landed-changed : (w : Which) (old log image other : D)
      → ((h c : Story) → told old ≡ Some h → told other ≡ Some c → (a b : List ℕ) → IsImage c.now b → Finds o (log_on w a b) (log_on w b a) k → mount_of a ≡ mount_of h.now.seen → ⊥)
      → (l s : Story) → told (disks_from w log image other).log ≡ Some l → told (disks_from w log image other).second ≡ Some s → (a b : List ℕ) → IsImage l.now a → IsImage s.now b → Finds o a b k → MayHaveChanged told count old log
  landed-changed First old log image other none l s tl ts a b in_a in_b finds h th x tx = (a, (subst (λ (y : Story). IsImage y.now a) (some_is l x (sym tl ∙ tx)) in_a, none h s th ts a b in_b finds))
  landed-changed Second old log image other none l s tl ts a b in_a in_b finds h th x tx = (b, (subst (λ (y : Story). IsImage y.now b) (some_is s x (sym ts ∙ tx)) in_b, none h l th tl b a in_a finds))

module _ {D : Type 0} (told : D → Option Story) (size : D → ℕ) (o : Owner) (side : TurnSide D) (turning : Turning told size side) (owner : side.owner ≡ o) where
  abbrev log-at : MountedLog
  log-at = record { head = side.log.header; base = side.log.base; records = side.records.items }

  -- a log that mounts as before tells as many turns
  pub same-turns : (w : Which) (h c : Story) → told side.log.disk ≡ Some h → told side.other ≡ Some c → (a b : List ℕ) → IsImage c.now b → mount_of a ≡ mount_of h.now.seen
      → (k : MountedLog) → Finds o (log_on w a b) (log_on w b a) k → (m : Numbers) → numbers_of o k.head k.base k.records ≡ Ok m → m.turns ≡ side.numbers.turns
  same-turns w h c th tc a b in_b same k finds m is =
      let b_is : b ≡ c.now.seen = image_at_rest c.now (turning.rests c tc) b in_b in
      let passes : PassesOver o side.log.header (front_of c.now.seen) = subst (λ (x : Owner). PassesOver x side.log.header (front_of c.now.seen)) owner (turning.other h th c tc) in
      let now : Finds o (log_on w a b) (log_on w b a) log-at =
      finds-current o log-at passes.owned w a b (same ∙ turning.mounts h th) (subst (λ (x : List ℕ). IsPassed o side.log.header (front_of x)) (sym b_is) passes.passed) in
      let numbers : numbers_of o side.log.header side.log.base side.records.items ≡ Ok side.numbers = ap (λ (x : Owner). numbers_of x side.log.header side.log.base side.records.items) (sym owner) ∙ turning.numbers in
      ap (λ (x : Numbers). x.turns) (sym (same-numbers o log-at k side.numbers m (one-found o (log_on w a b) (log_on w b a) log-at k now finds) numbers is))
