-- What the disks of a store recover to.
use Rattle.std.proofs.Common.{◌≡◌, ℕ, ◌*◌, ◌<◌, ◌≤◌, List, length, take, Bool, true, false, ◌==◌, refl, sym, ap, subst, ◌∙◌, arith, Option, Some, None, Ok}
use Rattle.std.specs.Prelude.{nat_lt}
use Rattle.std.proofs.lemmas.List.{length-take}
use Rattle.std.proofs.lemmas.Bool.{ne_eqb, lt-ltb, le-ltb}
use Rattle.ken_disk.specs.Story.{Story, IsImage}
use Rattle.ken_disk.specs.Moments.{MayLeave}
use Rattle.ken_disk.proofs.Images.{image_at_rest}
use Rattle.ken_disk.proofs.Since.{stays}
use Rattle.ken_model.specs.declared.values.Value.{Value}
use Rattle.ken_model.specs.Reading.{read_value}
use Rattle.ken_record.specs.declared.header.Header.{Header}
use Rattle.ken_record.specs.declared.base.Base.{Base}
use Rattle.ken_record.specs.declared.record.Record.{Record}
use Rattle.ken_log.specs.Mounts.{mount_of}
use Rattle.ken_log.specs.Mounts as mounts
use Rattle.ken_cover.specs.Covers.{IsPossible, Covers}
use Rattle.ken_cover.specs.Sides.{TurnPages, ImagePages, pages_of}
use Rattle.ken_cover.specs.Overlay.{overlay}
use Rattle.ken_cover.proofs.Keeps.{images_recover}
use Rattle.ken_store.specs.declared.disks.Which.{Which}
use Rattle.ken_store.specs.declared.disks.Which.TheVariants.{First, Second}
use Rattle.ken_store.specs.declared.heads.Front.{Front}
use Rattle.ken_store.specs.declared.heads.Front.TheVariants.{Absent, Wrong, Begins}
use Rattle.ken_store.specs.declared.heads.Logs.{Logs}
use Rattle.ken_store.specs.declared.heads.Logs.TheVariants.{Current}
use Rattle.ken_store.specs.declared.numbers.Numbers.{Numbers}
use Rattle.ken_store.specs.declared.owner.Owner.{Owner}
use Rattle.ken_store.specs.declared.store.Store.{Store}
use Rattle.ken_store.specs.Answers.{disks_in, disks_from}
use Rattle.ken_store.specs.Kept.{pages_in}
use Rattle.ken_store.specs.Logs.{front_of, logs_of, greater, log_on, is_owned, may_own}
use Rattle.ken_store.specs.Recovered.{Recovery, Whole, state_of, numbers_of, checked, with_image, with_state, with_log, with_logs, recovered}
use Rattle.ken_store.specs.Standing.{RecoversTo, RecoversMeanwhile, Standing}
use Rattle.ken_store.specs.declared.turning.TurnSide.{TurnSide}
use Rattle.ken_store.specs.Turning.{IsPassed, Turning, turn_pages, state_in}
use Rattle.ken_store.proofs.Lives.{live_pages}
use Rattle.ken_store.proofs.Mounted.{front_whole}

-- the current log is the one whose header this is, and both headers are the owner's
pub record AreOf (o : Owner) (which : Which) (head : Header) (logs : Logs) : Type 0 where
  pub first : Option Header
  pub second : Option Header
  pub is : logs ≡ Current which first second
  pub own_first : may_own o first ≡ true
  pub own_second : may_own o second ≡ true

module _ (o : Owner) (head : Header) (owned : is_owned o head ≡ true) where
  greater_first : (h : Header) → h.generation < head.generation → greater head h ≡ Current First (Some head) (Some h)
  greater_first h less =
      let different : (head.generation == h.generation) ≡ false = ne_eqb head.generation h.generation (λ e. let none : ⊥ = omega (arith, e, less) in none) in
      let no_less : nat_lt head.generation h.generation ≡ false = le-ltb _ _ (omega (arith, less)) in
      rw (different, no_less) refl

  greater_second : (h : Header) → h.generation < head.generation → greater h head ≡ Current Second (Some h) (Some head)
  greater_second h less =
      let different : (h.generation == head.generation) ≡ false = ne_eqb h.generation head.generation (λ e. let none : ⊥ = omega (arith, e, less) in none) in
      let is_less : nat_lt h.generation head.generation ≡ true = lt-ltb _ _ less in
      rw (different, is_less) refl

  current_first : (f : Front) → IsPassed o head f → AreOf o First head (logs_of (Begins head) f)
  current_first Absent passed = record { first = Some head; second = None; is = refl; own_first = owned; own_second = refl }
  current_first Wrong passed = absurd passed
  current_first (Begins h) passed = record { first = Some head; second = Some h; is = greater_first h passed.0; own_first = owned; own_second = passed.1 }

  current_second : (f : Front) → IsPassed o head f → AreOf o Second head (logs_of f (Begins head))
  current_second Absent passed = record { first = None; second = Some head; is = refl; own_first = refl; own_second = owned }
  current_second Wrong passed = absurd passed
  current_second (Begins h) passed = record { first = Some h; second = Some head; is = greater_second h passed.0; own_first = passed.1; own_second = owned }

module _ (o : Owner) (head : Header) (base : Option Base) (records : List Record) (n : Numbers) (numbers : numbers_of o head base records ≡ Ok n) (image heap : List ℕ) (long : 256 * o.pages ≤ length image) (is_heap : overlay (take (256 * o.pages) image) (pages_in base records) ≡ heap) (v : Value) (reads : read_value heap ≡ Some v) where
  found_in : with_image o (state_of o.node n base records) base records image ≡ Whole (state_of o.node n base records) v
  found_in =
      let enough : nat_lt (length image) (256 * o.pages) ≡ false = le-ltb _ _ long in
      rw (enough, is_heap, reads) refl

  pub found : (which : Which) (log second : List ℕ) → AreOf o which head (logs_of (front_of log) (front_of second)) → mount_of (log_on which log second) ≡ mounts.Whole head base records → recovered o log image second ≡ Whole (state_of o.node n base records) v
  found which log second are mounts_so =
      let passes : checked o which are.first are.second head base records ≡ Ok (state_of o.node n base records) = rw (are.own_first, are.own_second, numbers) refl in
      ap (with_logs o log image second) are.is
      ∙ ap (with_log o which are.first are.second image) mounts_so
      ∙ ap (with_state o base records image) passes
      ∙ found_in

-- of the bytes of the current log, the image and the other log
abbrev pub recovered_by : Which → Owner → List ℕ → List ℕ → List ℕ → Recovery
recovered_by First o log image other = recovered o log image other
recovered_by Second o log image other = recovered o other image log

-- a log whose owner this is, over the pages that an image and its records come to
module _ (o : Owner) (head : Header) (base : Option Base) (records : List Record) (n : Numbers) (numbers : numbers_of o head base records ≡ Ok n) (up : Bool) (t : TurnPages) (i : ImagePages) (covers : Covers o.pages up t i) (live : pages_of t.live ≡ pages_in base records) (v : Value) (reads : read_value t.heap ≡ Some v) where
  heap_again : (image : List ℕ) → IsPossible i (take (256 * o.pages) image) → overlay (take (256 * o.pages) image) (pages_in base records) ≡ t.heap
  heap_again image possible =
      ap (overlay (take (256 * o.pages) image)) (sym live) ∙ images_recover o.pages up t i (take (256 * o.pages) image) covers possible

  long_enough : (image : List ℕ) → IsPossible i (take (256 * o.pages) image) → 256 * o.pages ≤ length image
  long_enough image possible =
      let size = sym (length-take (256 * o.pages) image) ∙ possible.size ∙ covers.image_size in
      omega (arith, size)

  pub found_over : (which : Which) (log image other : List ℕ) → mount_of log ≡ mounts.Whole head base records → is_owned o head ≡ true → IsPassed o head (front_of other) → IsPossible i (take (256 * o.pages) image) → recovered_by which o log image other ≡ Whole (state_of o.node n base records) v
  found_over First log image other mounts_so owned passed possible =
      found o head base records n numbers image t.heap (long_enough image possible) (heap_again image possible) v reads First log other
      (subst (λ (f : Front). AreOf o First head (logs_of f (front_of other))) (sym (front_whole log head base records mounts_so)) (current_first o head owned (front_of other) passed)) mounts_so
  found_over Second log image other mounts_so owned passed possible =
      found o head base records n numbers image t.heap (long_enough image possible) (heap_again image possible) v reads Second other log
      (subst (λ (f : Front). AreOf o Second head (logs_of (front_of other) f)) (sym (front_whole log head base records mounts_so)) (current_second o head owned (front_of other) passed)) mounts_so

-- the disks by which log is current
module _ {D : Type 0} (told : D → Option Story) (o : Owner) (P : Recovery → Type 0) (log image other log2 image2 other2 : D) where
  pub by_which : (which : Which)
      → ((l i s l2 i2 s2 : Story) → told log ≡ Some l → told image ≡ Some i → told other ≡ Some s → told log2 ≡ Some l2 → told image2 ≡ Some i2 → told other2 ≡ Some s2
      → (a b c : List ℕ) → MayLeave l l2 a → MayLeave i i2 b → MayLeave s s2 c → P (recovered_by which o a b c))
      → RecoversMeanwhile told o (disks_from which log image other) (disks_from which log2 image2 other2) P
  by_which First all l tl i ti s ts l2 tl2 i2 ti2 s2 ts2 = λ a b c la ib sc. all l i s l2 i2 s2 tl ti ts tl2 ti2 ts2 a b c la ib sc
  by_which Second all s ts i ti l tl s2 ts2 i2 ti2 l2 tl2 = λ c b a sc ib la. all l i s l2 i2 s2 tl ti ts tl2 ti2 ts2 a b c la ib sc

-- of a disk that is as it was only what it is now is left
pub left_now : (h h2 : Story) (image : List ℕ) → h ≡ h2 → MayLeave h h2 image → IsImage h.now image
left_now h h2 image same may = (stays (IsImage h.now) h (λ i is. is)).each image (subst (λ (x : Story). MayLeave h x image) (sym same) may)

module _ {D : Type 0} (told : D → Option Story) (size : D → ℕ) (side : TurnSide D) (turning : Turning told size side) (up : Bool) (i : ImagePages) (covers : Covers side.owner.pages up (turn_pages side) i) (v : Value) (reads : read_value (turn_pages side).heap ≡ Some v) where
  -- of what the logs hold now
  pub side_recovers : (l s : Story) → told side.log.disk ≡ Some l → told side.other ≡ Some s → (log image other : List ℕ) → IsImage l.now log → IsImage s.now other → IsPossible i (take (256 * side.owner.pages) image) → recovered_by side.which side.owner log image other ≡ Whole (state_in side) v
  side_recovers l s tl ts log image other in_log in_other possible =
      let log_is = image_at_rest l.now (turning.log.rests l tl) log in_log in
      let passes = turning.other l tl s ts in
      let other_is = image_at_rest s.now (turning.rests s ts) other in_other in
      found_over side.owner side.log.header side.log.base side.records.items side.numbers turning.numbers up (turn_pages side) i covers (live_pages side.log.header side.log.base side.base_turns.items side.records.items turning.turns) v reads side.which log image other
      (ap mount_of log_is ∙ turning.mounts l tl) passes.owned (subst (λ (x : List ℕ). IsPassed side.owner side.log.header (front_of x)) (sym other_is) passes.passed) possible

module _ {D : Type 0} (told : D → Option Story) (size : D → ℕ) (store : Store D) (i : ImagePages) (stands : Standing told size store i) (v : Value) (reads : read_value (turn_pages store.turns).heap ≡ Some v) where
  -- an image that is left now
  pub possible_now : (h : Story) → told store.patches.image.disk ≡ Some h → (image : List ℕ) → IsImage h.now image → IsPossible i (take (256 * store.turns.owner.pages) image)
  possible_now h is image may = subst (λ (n : ℕ). IsPossible i (take (256 * n) image)) stands.takes.count ((stands.patches.holds h is).left image may)

  by_disk : (which : Which) → store.turns.which ≡ which → RecoversTo told store.turns.owner (disks_from which store.turns.log.disk store.patches.image.disk store.turns.other) (Whole (state_in store.turns) v)
  by_disk First is l tl h th s ts = λ log image second in_log in_image in_second.
      subst (λ (w : Which). recovered_by w store.turns.owner log image second ≡ Whole (state_in store.turns) v) is
      (side_recovers told size store.turns stands.takes.turns true i stands.covers v reads l s tl ts log image second in_log in_second (possible_now h th image in_image))
  by_disk Second is s ts h th l tl = λ second image log in_second in_image in_log.
      subst (λ (w : Which). recovered_by w store.turns.owner log image second ≡ Whole (state_in store.turns) v) is
      (side_recovers told size store.turns stands.takes.turns true i stands.covers v reads l s tl ts log image second in_log in_second (possible_now h th image in_image))

  pub recovers_to : RecoversTo told store.turns.owner (disks_in store) (Whole (state_in store.turns) v)
  recovers_to = by_disk store.turns.which refl
