-- Each event keeps coverage.
use Rattle.std.proofs.Common.{◌≡◌, ℕ, ◌*◌, ◌<◌, List, [], ◌∷◌, ◌++◌, map, length, Bool, true, false, ◌==◌, ◌||◌, Option, Some, None, option_map, is_some, refl, sym, ap, ◌∙◌, subst, inl, inr, ⊎_elim, eq-eqb, ne_eqb, ◌⊎◌}
use Rattle.std.specs.List.{AllByRecursion}
use Rattle.std.specs.Option.{option_or}
use Rattle.std.proofs.lemmas.Bool.{cases_eq, false≢true, eqb-true}
use Rattle.std.proofs.lemmas.List.{map-append, append-nil}
use Rattle.ken_pages.specs.Paged.{page_of}
use Rattle.ken_record.specs.declared.page.Page.{Page}
use Rattle.ken_cover.specs.Overlay.{with_page, overlay, numbers, among, newest_by, newest, IsWithin, AreWithin}
use Rattle.ken_cover.specs.declared.layers.Change.{Change}
use Rattle.ken_cover.specs.declared.layers.Layer.{Layer}
use Rattle.ken_cover.specs.Sides.{TurnPages, ImagePages, pages_of, changes_of, sealed_pages, handed_pages, without_page, IsPatch, patched_page, synced_pages, last_change, stays, base_changes, turned_pages, crashed_pages, recounted, recovered_image_pages}
use Rattle.ken_cover.specs.Covers.{IsPossible, Covers, AreTorn, MayLeaveOut}
use Rattle.ken_cover.specs.Laws.{StartIsCovered, SealKeepsCoverage, DownKeepsCoverage, PatchKeepsCoverage, SyncKeepsCoverage, TurnoverKeepsCoverage, CrashKeepsCoverage, ImagesRecover, Recovers, RecoveryKeepsCoverage}
use Rattle.ken_cover.proofs.Bytes.{same_pages, length-with_page, page_of-with_page_same, page_of-with_page_other}
use Rattle.ken_cover.proofs.Newest.{bytes_or, newest_by-append, newest-map, among-newest, among-append, AreWithin-append, length-overlay, page_of-overlay, overlay-append, none_newest, below_newest}
use Rattle.ken_cover.proofs.Bases.{page_in, pages_of-first, pages_of-onto, pages_of-with_pages, pages_of-recounted, pages_of-sealed, pages_of-handed, AreWithin-left, AreWithin-right, newest_found, AreWithin-without, among-without, newest-without_same, newest-without_other, AreOwn-base, AreWithin-own, overlay-own, among-base}

-- which it is
pub known : (b : Bool) → (b ≡ true) ⊎ (b ≡ false)
known true = inl refl
known false = inr refl

not_both : {A : Type 0} → (b : Bool) → b ≡ true → b ≡ false → A
not_both true h k = absurd (false≢true (sym k))
not_both false h k = absurd (false≢true h)

or_cases : (a b : Bool) → (a || b) ≡ true → (a ≡ true) ⊎ (b ≡ true)
or_cases true b h = inl refl
or_cases false b h = inr h

or_left : (a b : Bool) → a ≡ true → (a || b) ≡ true
or_left true b h = refl
or_left false b h = absurd (false≢true h)

or_right : (a b : Bool) → b ≡ true → (a || b) ≡ true
or_right true b h = refl
or_right false b h = h

neither : (a b : Bool) → (a || b) ≡ false → (a ≡ false) × (b ≡ false)
neither true b h = absurd (false≢true (sym h))
neither false b h = (refl, h)

-- a page is among the pages of two lists
among-pages : (p : ℕ) (es fs : List Page) → among (numbers (es ++ fs)) p ≡ (among (numbers es) p || among (numbers fs) p)
among-pages p es fs = ap (λ ps. among ps p) (map-append (λ (e : Page). e.page) es fs) ∙ among-append p (numbers es) (numbers fs)

-- what implies true is false where that is
contrary : (a b : Bool) → (a ≡ true → b ≡ true) → b ≡ false → a ≡ false
contrary true b more h = not_both b (more refl) h
contrary false b more h = refl

module _ (n : ℕ) (up : Bool) (t : TurnPages) (i : ImagePages) (c : Covers n up t i) where
  -- the image as it is
  now : IsPossible i i.image
  now = record { size = refl; same = λ p e. refl }

  -- a page that isn't live is clean
  clean : (p : ℕ) → among (numbers (pages_of t.live)) p ≡ false → i.unclean p ≡ false
  clean p h = contrary (i.unclean p) (among (numbers (pages_of t.live)) p) (c.covered p) h

  -- a clean page isn't open
  shut : (p : ℕ) → i.unclean p ≡ false → i.«open» p ≡ false
  shut p h = contrary (i.«open» p) (i.unclean p) (c.opened p) h

  -- the live records show the heap
  shown : (p : ℕ) → bytes_or (page_of t.heap p) (newest p (pages_of t.live)) ≡ page_of t.heap p
  shown p = sym (page_of-overlay n t.heap (pages_of t.live) p c.heap_size c.live_within) ∙ ap (λ x. page_of x p) c.stands

  pub live_below : (p : ℕ) → among (numbers (pages_of t.live)) p ≡ true → p < n
  live_below p h = below (pages_of t.live) c.live_within h
    where
      below : (es : List Page) → AreWithin n es → among (numbers es) p ≡ true → p < n
      below [] all h = absurd (false≢true h)
      below (e ∷ es) all h = ⊎_elim (λ same. subst (λ q. q < n) (eqb-true e.page p same) all.0.0) (λ later. below es all.1 later) (or_cases (e.page == p) (among (numbers es) p) h)

  recovers : (image : List ℕ) → IsPossible i image → overlay image (pages_of t.live) ≡ t.heap
  recovers image possible =
      let size : length image ≡ 256 * n = possible.size ∙ c.image_size in
      same_pages n (overlay image (pages_of t.live)) t.heap (length-overlay n image (pages_of t.live) size c.live_within) c.heap_size
      (λ p lt. page_of-overlay n image (pages_of t.live) p size c.live_within ∙ page p possible)
    where
      page : (p : ℕ) → IsPossible i image → bytes_or (page_of image p) (newest p (pages_of t.live)) ≡ page_of t.heap p
      page p possible =
          ⊎_elim
          (λ live. below_newest p (pages_of t.live) (page_of image p) (page_of t.heap p) live ∙ shown p)
          (λ gone. ap (bytes_or (page_of image p)) (none_newest p (pages_of t.live) gone) ∙ c.safe image possible p (clean p gone))
          (known (among (numbers (pages_of t.live)) p))

  down : Covers n false t i
  down = record {
    heap_size = c.heap_size;
    image_size = c.image_size;
    live_within = c.live_within;
    ahead_within = c.ahead_within;
    stands = c.stands;
    covered = c.covered;
    safe = c.safe;
    opened = c.opened;
    coming = c.coming;
    goal = λ no. absurd (false≢true no);
  }

  recovered : Recovers n t i
  recovered =
      let again : overlay i.image (pages_of t.live) ≡ t.heap = recovers i.image now in
      let live = map recounted t.live in
      let same : pages_of live ≡ pages_of t.live = pages_of-recounted t.live in
      let ahead : pages_of (recovered_image_pages t.live i).ahead ≡ pages_of t.live = pages_of-with_pages live ∙ same in
      let there : Covers n true (record { heap = t.heap; live = live }) (recovered_image_pages t.live i) = record {
        heap_size = c.heap_size;
        image_size = c.image_size;
        live_within = subst (AreWithin n) (sym same) c.live_within;
        ahead_within = subst (AreWithin n) (sym ahead) c.live_within;
        stands = ap (overlay t.heap) same ∙ c.stands;
        covered = λ p h. ap (λ es. among (numbers es) p) same ∙ h;
        safe = λ image q p h. c.safe image (record { size = q.size; same = q.same }) p (clean p h);
        opened = λ p h. c.covered p (c.opened p h);
        coming = λ p h. sym (ap (λ es. among (numbers es) p) ahead) ∙ h;
        goal = λ up. ap (overlay i.image) ahead ∙ again;
      } in
      record { heap = again; covers = subst (λ h. Covers n true (record { heap = h; live = live }) (recovered_image_pages t.live i)) (sym again) there }

-- the newest of both lists, where the first shows the heap
sealed_page : (x : List ℕ) (new old : Option Page) → bytes_or x old ≡ x → bytes_or (bytes_or x new) (option_or new old) ≡ bytes_or x new
sealed_page x None old h = h
sealed_page x (Some e) old h = refl

module _ (n : ℕ) (up : Bool) (t : TurnPages) (i : ImagePages) (turn : ℕ) (pages : List Page) (inside : AreWithin n pages) (c : Covers n true t i) where
  sealed : Covers n up (sealed_pages turn pages t) (handed_pages turn pages i)
  sealed =
      let live : pages_of (sealed_pages turn pages t).live ≡ pages_of t.live ++ pages = pages_of-sealed t.live turn pages in
      let ahead : pages_of (handed_pages turn pages i).ahead ≡ pages_of i.ahead ++ pages = pages_of-handed i.ahead turn pages in
      let size = length-overlay n t.heap pages c.heap_size inside in
      let live_inside : AreWithin n (pages_of t.live ++ pages) = AreWithin-append n (pages_of t.live) pages c.live_within inside in
      record {
        heap_size = size;
        image_size = c.image_size;
        live_within = subst (AreWithin n) (sym live) live_inside;
        ahead_within = subst (AreWithin n) (sym ahead) (AreWithin-append n (pages_of i.ahead) pages c.ahead_within inside);
        stands = ap (overlay (overlay t.heap pages)) live ∙ same_pages n _ _ (length-overlay n (overlay t.heap pages) (pages_of t.live ++ pages) size live_inside) size
            (λ p lt.
            page_of-overlay n (overlay t.heap pages) (pages_of t.live ++ pages) p size live_inside
            ∙ ap (bytes_or (page_of (overlay t.heap pages) p)) (newest_by-append (λ (e : Page). e) p (pages_of t.live) pages)
            ∙ ap (λ x. bytes_or x (option_or (newest p pages) (newest p (pages_of t.live)))) (page_of-overlay n t.heap pages p c.heap_size inside)
            ∙ sealed_page (page_of t.heap p) (newest p pages) (newest p (pages_of t.live)) (shown n true t i c p)
            ∙ sym (page_of-overlay n t.heap pages p c.heap_size inside));
        covered = λ p h. ap (λ es. among (numbers es) p) live ∙ among-pages p (pages_of t.live) pages
            ∙ ⊎_elim (λ new. or_right _ _ new) (λ old. or_left _ _ (c.covered p old)) (or_cases _ _ h);
        safe = λ image q p h.
            let none = neither _ _ h in
            c.safe image (record { size = q.size; same = q.same }) p none.1
            ∙ sym (page_of-overlay n t.heap pages p c.heap_size inside ∙ ap (bytes_or (page_of t.heap p)) (none_newest p pages none.0));
        opened = λ p h. or_right _ _ (c.opened p h);
        coming = λ p h. ⊎_elim (λ old. or_right _ _ (c.coming p old)) (λ new. or_left _ _ new) (or_cases _ _ (sym (among-pages p (pages_of i.ahead) pages) ∙ sym (ap (λ es. among (numbers es) p) ahead) ∙ h));
        goal = λ _. ap (overlay i.image) ahead ∙ overlay-append i.image (pages_of i.ahead) pages ∙ ap (λ x. overlay x pages) (c.goal refl);
      }

-- a page that is written, whether or not it is written again
patched_at : (x : List ℕ) (e : Page) (later : Option Page) → bytes_or e.bytes (option_or later None) ≡ bytes_or x (option_or later (Some e))
patched_at x e None = refl
patched_at x e (Some f) = refl

module _ (n : ℕ) (t : TurnPages) (i : ImagePages) (p : ℕ) (first : Layer) (rest : List Layer) (d : Change) (is : IsPatch i p first rest d) (c : Covers n true t i) where
  parts : pages_of i.ahead ≡ map page_in first.changes ++ pages_of rest
  parts = ap pages_of is.oldest ∙ pages_of-first first rest

  found : (d.page.page ≡ p) × IsWithin n d.page
  found =
      let f = newest_found n p first.changes d (AreWithin-left n (map page_in first.changes) (pages_of rest) (subst (AreWithin n) parts c.ahead_within)) is.page in
      (f.page, f.within)

  -- it is still to come
  comes : i.unclean d.page.page ≡ true
  comes =
      let here : is_some (newest d.page.page (map page_in first.changes)) ≡ true = ap (λ q. is_some (newest q (map page_in first.changes))) found.0 ∙ ap is_some (newest-map page_in p first.changes) ∙ ap (λ o. is_some (option_map page_in o)) is.page in
      c.coming d.page.page (ap (λ es. among (numbers es) d.page.page) parts ∙ among-pages d.page.page (map page_in first.changes) (pages_of rest) ∙ or_left _ _ (sym (among-newest d.page.page (map page_in first.changes)) ∙ here))

  -- what is ahead then
  ahead : pages_of (patched_page first rest d i).ahead ≡ map page_in (without_page d.page.page first.changes) ++ pages_of rest
  ahead = pages_of-onto first.turn (without_page d.page.page first.changes) rest

  size : length (with_page i.image d.page) ≡ 256 * n
  size = length-with_page n i.image d.page c.image_size found.1 ∙ c.image_size

  -- the newest change that is ahead of each page, in the old image and in the new one
  same_page : (q : ℕ) → bytes_or (page_of (with_page i.image d.page) q) (option_or (newest q (pages_of rest)) (newest q (map page_in (without_page d.page.page first.changes)))) ≡ bytes_or (page_of i.image q) (option_or (newest q (pages_of rest)) (newest q (map page_in first.changes)))
  same_page q =
      ⊎_elim
      (λ (same : d.page.page ≡ q).
      let gone : newest q (map page_in (without_page d.page.page first.changes)) ≡ None = subst (λ x. newest x (map page_in (without_page d.page.page first.changes)) ≡ None) same (newest-without_same d.page.page first.changes) in
      let was : newest q (map page_in first.changes) ≡ Some d.page = newest-map page_in q first.changes ∙ ap (λ x. option_map page_in (newest_by page_in x first.changes)) (sym same ∙ found.0) ∙ ap (option_map page_in) is.page in
      let new : page_of (with_page i.image d.page) q ≡ d.page.bytes = subst (λ x. page_of (with_page i.image d.page) x ≡ d.page.bytes) same (page_of-with_page_same n i.image d.page c.image_size found.1) in
      ap (λ x. bytes_or x (option_or (newest q (pages_of rest)) (newest q (map page_in (without_page d.page.page first.changes))))) new
      ∙ ap (λ o. bytes_or d.page.bytes (option_or (newest q (pages_of rest)) o)) gone
      ∙ patched_at (page_of i.image q) d.page (newest q (pages_of rest))
      ∙ ap (λ o. bytes_or (page_of i.image q) (option_or (newest q (pages_of rest)) o)) (sym was))
      (λ other.
      ap (λ x. bytes_or x (option_or (newest q (pages_of rest)) (newest q (map page_in (without_page d.page.page first.changes))))) (page_of-with_page_other n i.image d.page c.image_size found.1 q other)
      ∙ ap (λ o. bytes_or (page_of i.image q) (option_or (newest q (pages_of rest)) o)) (newest-without_other d.page.page q first.changes other))
      (cases_eq d.page.page q)

  patched : Covers n true t (patched_page first rest d i)
  patched =
      let left = map page_in (without_page d.page.page first.changes) in
      let old : AreWithin n (map page_in first.changes ++ pages_of rest) = subst (AreWithin n) parts c.ahead_within in
      let new : AreWithin n (left ++ pages_of rest) = AreWithin-append n left (pages_of rest) (AreWithin-without n d.page.page first.changes (AreWithin-left n (map page_in first.changes) (pages_of rest) old)) (AreWithin-right n (map page_in first.changes) (pages_of rest) old) in
      record {
        heap_size = c.heap_size;
        image_size = size;
        live_within = c.live_within;
        ahead_within = subst (AreWithin n) (sym ahead) new;
        stands = c.stands;
        covered = c.covered;
        safe = λ image q p h.
            let apart : d.page.page ≡ p → ⊥ = λ e. not_both (i.unclean p) (subst (λ x. i.unclean x ≡ true) e comes) h in
            q.same p (rw (ne_eqb d.page.page p apart) (shut n true t i c p h))
            ∙ page_of-with_page_other n i.image d.page c.image_size found.1 p apart
            ∙ c.safe i.image (now n true t i c) p h;
        opened = λ p h. ⊎_elim (λ same. subst (λ x. i.unclean x ≡ true) (eqb-true d.page.page p same) comes) (λ before. c.opened p before) (or_cases _ _ h);
        coming = λ p h. c.coming p (
            ap (λ es. among (numbers es) p) parts ∙ among-pages p (map page_in first.changes) (pages_of rest)
            ∙ ⊎_elim (λ one. or_left _ _ (among-without d.page.page p first.changes one)) (λ other. or_right _ _ other) (or_cases _ _ (sym (among-pages p left (pages_of rest)) ∙ sym (ap (λ es. among (numbers es) p) ahead) ∙ h)));
        goal = λ _.
            ap (overlay (with_page i.image d.page)) ahead
            ∙ same_pages n _ _ (length-overlay n (with_page i.image d.page) (left ++ pages_of rest) size new) c.heap_size
            (λ q lt.
            page_of-overlay n (with_page i.image d.page) (left ++ pages_of rest) q size new
            ∙ ap (bytes_or (page_of (with_page i.image d.page) q)) (newest_by-append (λ (e : Page). e) q left (pages_of rest))
            ∙ same_page q
            ∙ ap (bytes_or (page_of i.image q)) (sym (newest_by-append (λ (e : Page). e) q (map page_in first.changes) (pages_of rest)))
            ∙ sym (page_of-overlay n i.image (map page_in first.changes ++ pages_of rest) q c.image_size old)
            ∙ ap (λ es. page_of (overlay i.image es) q) (sym parts)
            ∙ ap (λ x. page_of x q) (c.goal refl));
      }

module _ (n : ℕ) (t : TurnPages) (i : ImagePages) (c : Covers n true t i) where
  synced : Covers n true t (synced_pages i)
  synced = record {
    heap_size = c.heap_size;
    image_size = c.image_size;
    live_within = c.live_within;
    ahead_within = c.ahead_within;
    stands = c.stands;
    covered = λ p h. c.covered p (c.coming p h);
    safe = λ image q p h.
        q.same p refl
        ∙ sym (ap (λ x. page_of x p) (sym (c.goal refl)) ∙ page_of-overlay n i.image (pages_of i.ahead) p c.image_size c.ahead_within ∙ ap (bytes_or (page_of i.image p)) (none_newest p (pages_of i.ahead) h));
    opened = λ p h. absurd (false≢true h);
    coming = λ p h. h;
    goal = c.goal;
  }

module _ (n : ℕ) (up : Bool) (t : TurnPages) (i : ImagePages) (settled turn : ℕ) (may : MayLeaveOut settled t i) (c : Covers n true t i) where
  -- a live page has a last change
  changed : (p : ℕ) → among (numbers (pages_of t.live)) p ≡ true → (d : Change) × (last_change p t.live ≡ Some d)
  changed p h = there (last_change p t.live) (sym (ap is_some (newest-map page_in p (changes_of t.live))) ∙ among-newest p (pages_of t.live) ∙ h)
    where
      there : (o : Option Change) → is_some (option_map page_in o) ≡ true → (d : Change) × (o ≡ Some d)
      there None h = absurd (false≢true h)
      there (Some d) h = (d, refl)

  turned : Covers n up (turned_pages n settled turn t) i
  turned =
      let base = map page_in (base_changes n settled t) in
      let own = AreOwn-base n settled t in
      let live : pages_of (turned_pages n settled turn t).live ≡ base = pages_of-first (record { turn = turn; changes = base_changes n settled t }) [] ∙ append-nil base in
      record {
        heap_size = c.heap_size;
        image_size = c.image_size;
        live_within = subst (AreWithin n) (sym live) (AreWithin-own n t.heap c.heap_size base own);
        ahead_within = c.ahead_within;
        stands = ap (overlay t.heap) live ∙ overlay-own n t.heap c.heap_size base own;
        covered = λ p h.
            let d = changed p (c.covered p h) in
            ap (λ es. among (numbers es) p) live
            ∙ ⊎_elim
            (λ stay. among-base n settled t p d.0 (live_below n true t i c p (c.covered p h)) d.1 stay)
            (λ gone. not_both (i.unclean p) h (may p d.0 d.1 gone))
            (known (stays settled d.0.turn));
        safe = c.safe;
        opened = c.opened;
        coming = c.coming;
        goal = λ _. c.goal refl;
      }

module _ (n : ℕ) (up : Bool) (t : TurnPages) (i : ImagePages) (pages : List Page) (torn : AreTorn i pages) (c : Covers n up t i) where
  -- open pages lie in the heap
  pub inside : AreWithin n pages
  inside = each pages torn.whole (λ p h. live_below n up t i c p (c.covered p (c.opened p (sym (torn.exactly p) ∙ h))))
    where
      each : (es : List Page) → AllByRecursion (λ (e : Page). length e.bytes ≡ 256) es → ((p : ℕ) → among (numbers es) p ≡ true → p < n) → AreWithin n es
      each [] whole below = tt
      each (e ∷ es) whole below = ((below e.page (or_left _ _ (eq-eqb e.page e.page refl)), whole.0), each es whole.1 (λ p h. below p (or_right _ _ h)))

  crashed : Covers n false t (crashed_pages pages i)
  crashed = record {
    heap_size = c.heap_size;
    image_size = length-overlay n i.image pages c.image_size inside;
    live_within = c.live_within;
    ahead_within = c.ahead_within;
    stands = c.stands;
    covered = c.covered;
    safe = λ image q p h.
        q.same p refl
        ∙ page_of-overlay n i.image pages p c.image_size inside
        ∙ ap (bytes_or (page_of i.image p)) (none_newest p pages (torn.exactly p ∙ shut n up t i c p h))
        ∙ c.safe i.image (now n up t i c) p h;
    opened = λ p h. absurd (false≢true h);
    coming = c.coming;
    goal = λ no. absurd (false≢true no);
  }

-- the laws
pub start_is_covered : StartIsCovered
start_is_covered n heap size = record {
  heap_size = size;
  image_size = size;
  live_within = tt;
  ahead_within = tt;
  stands = refl;
  covered = λ p h. absurd (false≢true h);
  safe = λ image q p h. q.same p refl;
  opened = λ p h. absurd (false≢true h);
  coming = λ p h. absurd (false≢true h);
  goal = λ _. refl;
}

pub seal_keeps_coverage : SealKeepsCoverage
seal_keeps_coverage n up t i turn pages inside c = sealed n up t i turn pages inside c

pub down_keeps_coverage : DownKeepsCoverage
down_keeps_coverage n up t i c = down n up t i c

pub patch_keeps_coverage : PatchKeepsCoverage
patch_keeps_coverage n t i p first rest d is c = patched n t i p first rest d is c

pub sync_keeps_coverage : SyncKeepsCoverage
sync_keeps_coverage n t i c = synced n t i c

pub turnover_keeps_coverage : TurnoverKeepsCoverage
turnover_keeps_coverage n up t i settled turn may c = turned n up t i settled turn may c

pub crash_keeps_coverage : CrashKeepsCoverage
crash_keeps_coverage n up t i pages torn c = crashed n up t i pages torn c

pub images_recover : ImagesRecover
images_recover n up t i image c possible = recovers n up t i c image possible

pub recovery_keeps_coverage : RecoveryKeepsCoverage
recovery_keeps_coverage n up t i c = recovered n up t i c
