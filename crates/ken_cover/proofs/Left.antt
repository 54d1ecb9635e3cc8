-- Possible images are those that crashes leave.
use Rattle.std.proofs.Common.{◌≡◌, ℕ, ◌+◌, ◌*◌, ◌<◌, ◌≤◌, zero, suc, List, [], ◌∷◌, ◌++◌, length, Bool, true, false, if◌then◌else◌, Option, Some, None, is_some, refl, sym, ap, ◌∙◌, ⊎_elim, arith, eq-eqb, ne_eqb}
use Rattle.std.specs.List.{AllByRecursion, flat_map, range_with_len}
use Rattle.std.specs.Option.{option_or}
use Rattle.std.proofs.lemmas.Bool.{cases_eq, le-leb, cases_lt}
use Rattle.ken_pages.specs.Paged.{page_of}
use Rattle.ken_record.specs.declared.page.Page.{Page}
use Rattle.ken_record.specs.Grammar.{rise_from, page_rank}
use Rattle.ken_cover.specs.Overlay.{overlay, numbers, among, newest}
use Rattle.ken_cover.specs.Sides.{TurnPages, ImagePages}
use Rattle.ken_cover.specs.Covers.{IsPossible, Covers, AreTorn}
use Rattle.ken_cover.specs.Laws.{IsLeft, ImagesAreLeft, CrashLeavesImage}
use Rattle.ken_cover.proofs.Bytes.{same_pages}
use Rattle.ken_cover.proofs.Newest.{bytes_or, newest_by-append, among-newest, length-overlay, page_of-overlay, none_newest, option_or-none}
use Rattle.ken_cover.proofs.Bases.{length-page_of}
use Rattle.ken_cover.proofs.Keeps.{known, inside, live_below}

module _ (is_open : ℕ → Bool) (image : List ℕ) where
  -- the entry of an open page
  abbrev entry : ℕ → Page
  entry p = record { page = p; bytes = page_of image p }

  abbrev one : ℕ → List Page
  one p = if is_open p then entry p ∷ [] else []

  abbrev pub left : ℕ → ℕ → List Page
  left a k = flat_map one (range_with_len a k)

  abbrev shown : ℕ → Option Page
  shown p = if is_open p then Some (entry p) else None

  -- what the entry of a page shows at a page
  one_here : (p : ℕ) → newest p (one p) ≡ shown p
  one_here p = here (is_open p)
    where
      here : (b : Bool) → newest p (if b then record { page = p; bytes = page_of image p } ∷ [] else []) ≡ (if b then Some (record { page = p; bytes = page_of image p }) else None)
      here true = rw (eq-eqb p p refl) refl
      here false = refl

  one_elsewhere : (p q : ℕ) → (q ≡ p → ⊥) → newest p (one q) ≡ None
  one_elsewhere p q ne = here (is_open q)
    where
      here : (b : Bool) → newest p (if b then record { page = q; bytes = page_of image q } ∷ [] else []) ≡ None
      here true = rw (ne_eqb q p ne) refl
      here false = refl

  before : (p a k : ℕ) → p < a → newest p (left a k) ≡ None
  before p a zero lt = refl
  before p a (suc k) lt =
      newest_by-append (λ (e : Page). e) p (one a) (left (a + 1) k)
      ∙ ap (λ o. option_or o (newest p (one a))) (before p (a + 1) k (omega arith))
      ∙ one_elsewhere p a (λ e. omega arith)

  past : (p a k : ℕ) → a + k ≤ p → newest p (left a k) ≡ None
  past p a zero le = refl
  past p a (suc k) le =
      newest_by-append (λ (e : Page). e) p (one a) (left (a + 1) k)
      ∙ ap (λ o. option_or o (newest p (one a))) (past p (a + 1) k (omega arith))
      ∙ one_elsewhere p a (λ e. omega arith)

  pub newest-left : (p a k : ℕ) → a ≤ p → p < a + k → newest p (left a k) ≡ shown p
  newest-left p a zero low high = absurd (omega arith)
  newest-left p a (suc k) low high =
      newest_by-append (λ (e : Page). e) p (one a) (left (a + 1) k)
      ∙ ⊎_elim
      (λ (same : a ≡ p). ap (λ o. option_or o (newest p (one a))) (before p (a + 1) k (omega arith)) ∙ ap (λ q. newest p (one q)) same ∙ one_here p)
      (λ other. ap (λ o. option_or o (newest p (one a))) (newest-left p (a + 1) k (omega arith) (omega arith)) ∙ ap (option_or (shown p)) (one_elsewhere p a other) ∙ option_or-none (shown p))
      (cases_eq a p)

  rises : (low a k : ℕ) → low ≤ a → rise_from page_rank low (left a k) ≡ true
  rises low a zero le = refl
  rises low a (suc k) le = here (is_open a) (rises (a + 1) (a + 1) k (omega arith)) (rises low (a + 1) k (omega arith))
    where
      here : (b : Bool) → rise_from page_rank (a + 1) (left (a + 1) k) ≡ true → rise_from page_rank low (left (a + 1) k) ≡ true → rise_from page_rank low ((if b then record { page = a; bytes = page_of image a } ∷ [] else []) ++ left (a + 1) k) ≡ true
      here true next same = rw (le-leb low a le) next
      here false next same = same

  whole : (n a k : ℕ) → length image ≡ 256 * n → a + k ≤ n → AllByRecursion (λ (e : Page). length e.bytes ≡ 256) (left a k)
  whole n a zero size le = tt
  whole n a (suc k) size le = here (is_open a) (length-page_of n a image size (omega arith)) (whole n (a + 1) k size (omega arith))
    where
      here : (b : Bool) → length (page_of image a) ≡ 256 → AllByRecursion (λ (e : Page). length e.bytes ≡ 256) (left (a + 1) k) → AllByRecursion (λ (e : Page). length e.bytes ≡ 256) ((if b then record { page = a; bytes = page_of image a } ∷ [] else []) ++ left (a + 1) k)
      here true one rest = (one, rest)
      here false one rest = rest

  none_shown : (p : ℕ) → is_open p ≡ false → shown p ≡ None
  none_shown p e = rw e refl

  some_shown : (p : ℕ) → is_some (shown p) ≡ is_open p
  some_shown p = here (is_open p)
    where
      here : (b : Bool) → is_some {T = Page} (if b then Some (record { page = p; bytes = page_of image p }) else None) ≡ b
      here true = refl
      here false = refl

  bytes_shown : (p : ℕ) (old : List ℕ) → (is_open p ≡ false → page_of image p ≡ old) → bytes_or old (shown p) ≡ page_of image p
  bytes_shown p old same = here (is_open p) same
    where
      here : (b : Bool) → (b ≡ false → page_of image p ≡ old) → bytes_or old (if b then Some (record { page = p; bytes = page_of image p }) else None) ≡ page_of image p
      here true e = refl
      here false e = sym (e refl)

-- what is left of a covered image
module _ (n : ℕ) (up : Bool) (t : TurnPages) (i : ImagePages) (image : List ℕ) (c : Covers n up t i) (possible : IsPossible i image) where
  abbrev pages : List Page
  pages = left i.«open» image 0 n

  size : length image ≡ 256 * n
  size = possible.size ∙ c.image_size

  -- open pages lie in the heap
  below : (p : ℕ) → i.«open» p ≡ true → p < n
  below p h = live_below n up t i c p (c.covered p (c.opened p h))

  at : (p : ℕ) → p < n → newest p pages ≡ (if i.«open» p then Some (record { page = p; bytes = page_of image p }) else None)
  at p lt = newest-left i.«open» image p 0 n (omega arith) (omega arith)

  exactly : (p : ℕ) → among (numbers pages) p ≡ i.«open» p
  exactly p =
      sym (among-newest p pages)
      ∙ ⊎_elim
      (λ (lt : p < n). ap is_some (at p lt) ∙ some_shown i.«open» image p)
      (λ le. ap is_some (past i.«open» image p 0 n (omega arith)) ∙ sym (shut p le))
      (cases_lt p n)
    where
      shut : (p : ℕ) → n ≤ p → i.«open» p ≡ false
      shut p le = ⊎_elim (λ yes. absurd (let lt = below p yes in omega arith)) (λ no. no) (known (i.«open» p))

  torn : AreTorn i pages
  torn = record { whole = whole i.«open» image n 0 n size (omega arith); rising = rises i.«open» image 0 0 n (omega arith); exactly = exactly }

  is_left : IsLeft i image
  is_left =
      let within = inside n up t i pages torn c in
      record {
        pages = pages;
        torn = torn;
        leaves = same_pages n (overlay i.image pages) image (length-overlay n i.image pages c.image_size within) size
            (λ p lt. page_of-overlay n i.image pages p c.image_size within ∙ ap (bytes_or (page_of i.image p)) (at p lt) ∙ bytes_shown i.«open» image p (page_of i.image p) (possible.same p));
      }

pub images_are_left : ImagesAreLeft
images_are_left n up t i image c possible = is_left n up t i image c possible

pub crash_leaves_image : CrashLeavesImage
crash_leaves_image n up t i pages c torn =
    let within = inside n up t i pages torn c in
    record {
      size = length-overlay n i.image pages c.image_size within ∙ sym c.image_size;
      same = λ p e. page_of-overlay n i.image pages p c.image_size within ∙ ap (bytes_or (page_of i.image p)) (none_newest p pages (torn.exactly p ∙ e));
    }
