-- The newest entry of each page, and what an overlay makes of a page.
use Rattle.std.proofs.Common.{◌≡◌, ℕ, ◌*◌, List, [], ◌∷◌, ◌++◌, map, length, Bool, true, false, ◌==◌, ◌||◌, if◌then◌else◌, Option, Some, None, option_map, is_some, refl, sym, ap, ◌∙◌, subst, ⊎_elim, eq-eqb, ne_eqb}
use Rattle.std.specs.Option.{option_or}
use Rattle.std.proofs.lemmas.Bool.{cases_eq, false≢true}
use Rattle.std.proofs.lemmas.List.Folds.{list_any-append}
use Rattle.ken_pages.specs.Paged.{page_of}
use Rattle.ken_record.specs.declared.page.Page.{Page}
use Rattle.ken_cover.specs.Overlay.{with_page, overlay, numbers, among, newest_by, newest, IsWithin, AreWithin}
use Rattle.ken_cover.proofs.Bytes.{length-with_page, page_of-with_page_same, page_of-with_page_other}

-- the first that there is, of three
option_or-assoc : {A : Type 0} → (a b c : Option A) → option_or (option_or a b) c ≡ option_or a (option_or b c)
option_or-assoc None b c = refl
option_or-assoc (Some x) b c = refl

pub option_or-none : {A : Type 0} → (a : Option A) → option_or a None ≡ a
option_or-none None = refl
option_or-none (Some x) = refl

pub newest_by-append : {A : Type 0} → (page : A → Page) (p : ℕ) (xs ys : List A) → newest_by page p (xs ++ ys) ≡ option_or (newest_by page p ys) (newest_by page p xs)
newest_by-append page p [] ys = sym (option_or-none (newest_by page p ys))
newest_by-append page p (x ∷ xs) ys =
    ap (λ o. option_or o (if (page x).page == p then Some x else None)) (newest_by-append page p xs ys)
    ∙ option_or-assoc (newest_by page p ys) (newest_by page p xs) (if (page x).page == p then Some x else None)

-- the same of what the entries are mapped to
mapped_or : {A : Type 0} → (page : A → Page) (b : Bool) (x : A) (o : Option A) → option_map page (option_or o (if b then Some x else None)) ≡ option_or (option_map page o) (if b then Some (page x) else None)
mapped_or page b x (Some y) = refl
mapped_or page true x None = refl
mapped_or page false x None = refl

pub newest-map : {A : Type 0} → (page : A → Page) (p : ℕ) (xs : List A) → newest p (map page xs) ≡ option_map page (newest_by page p xs)
newest-map page p [] = refl
newest-map page p (x ∷ xs) =
    ap (λ o. option_or o (if (page x).page == p then Some (page x) else None)) (newest-map page p xs)
    ∙ sym (mapped_or page ((page x).page == p) x (newest_by page p xs))

-- a page has a newest entry where it is among the pages
is_some_or : {A : Type 0} → (b : Bool) (x : A) (o : Option A) (c : Bool) → is_some o ≡ c → is_some (option_or o (if b then Some x else None)) ≡ (b || c)
is_some_or true x (Some y) c e = refl
is_some_or true x None c e = refl
is_some_or false x (Some y) c e = e
is_some_or false x None c e = e

pub among-newest : (p : ℕ) (es : List Page) → is_some (newest p es) ≡ among (numbers es) p
among-newest p [] = refl
among-newest p (e ∷ es) = is_some_or (e.page == p) e (newest p es) (among (numbers es) p) (among-newest p es)

pub among-append : (p : ℕ) (ps qs : List ℕ) → among (ps ++ qs) p ≡ (among ps p || among qs p)
among-append p ps qs = list_any-append (λ q. q == p) ps qs

-- the bytes of a page under an entry for it, where there is one
abbrev pub bytes_or : List ℕ → Option Page → List ℕ
bytes_or x None = x
bytes_or x (Some e) = e.bytes

pub AreWithin-append : (n : ℕ) (es fs : List Page) → AreWithin n es → AreWithin n fs → AreWithin n (es ++ fs)
AreWithin-append n [] fs one other = other
AreWithin-append n (e ∷ es) fs one other = (one.0, AreWithin-append n es fs one.1 other)

-- an overlay has the bytes of each page's newest entry
laid_one : (n : ℕ) (bytes : List ℕ) (e : Page) (p : ℕ) (o : Option Page) → length bytes ≡ 256 * n → IsWithin n e → bytes_or (page_of (with_page bytes e) p) o ≡ bytes_or (page_of bytes p) (option_or o (if e.page == p then Some e else None))
laid_one n bytes e p (Some f) size inside = refl
laid_one n bytes e p None size inside =
    ⊎_elim
    (λ (same : e.page ≡ p). rw (eq-eqb e.page p same) (subst (λ (q : ℕ). page_of (with_page bytes e) q ≡ e.bytes) same (page_of-with_page_same n bytes e size inside)))
    (λ other. rw (ne_eqb e.page p other) (page_of-with_page_other n bytes e size inside p other))
    (cases_eq e.page p)

pub length-overlay : (n : ℕ) (bytes : List ℕ) (es : List Page) → length bytes ≡ 256 * n → AreWithin n es → length (overlay bytes es) ≡ 256 * n
length-overlay n bytes [] size within = size
length-overlay n bytes (e ∷ es) size within = length-overlay n (with_page bytes e) es (length-with_page n bytes e size within.0 ∙ size) within.1

pub page_of-overlay : (n : ℕ) (bytes : List ℕ) (es : List Page) (p : ℕ) → length bytes ≡ 256 * n → AreWithin n es → page_of (overlay bytes es) p ≡ bytes_or (page_of bytes p) (newest p es)
page_of-overlay n bytes [] p size within = refl
page_of-overlay n bytes (e ∷ es) p size within =
    page_of-overlay n (with_page bytes e) es p (length-with_page n bytes e size within.0 ∙ size) within.1
    ∙ laid_one n bytes e p (newest p es) size within.0

pub overlay-append : (bytes : List ℕ) (es fs : List Page) → overlay bytes (es ++ fs) ≡ overlay (overlay bytes es) fs
overlay-append bytes [] fs = refl
overlay-append bytes (e ∷ es) fs = overlay-append (with_page bytes e) es fs

-- a page that isn't among them has no entry
pub none_newest : (p : ℕ) (es : List Page) → among (numbers es) p ≡ false → newest p es ≡ None
none_newest p es e = none (newest p es) (among-newest p es ∙ e)
  where
    none : (o : Option Page) → is_some o ≡ false → o ≡ None
    none None h = refl
    none (Some x) h = absurd (false≢true (sym h))

-- one that is has the same bytes, whatever lies below
pub below_newest : (p : ℕ) (es : List Page) (x y : List ℕ) → among (numbers es) p ≡ true → bytes_or x (newest p es) ≡ bytes_or y (newest p es)
below_newest p es x y e = below (newest p es) (among-newest p es ∙ e)
  where
    below : (o : Option Page) → is_some o ≡ true → bytes_or x o ≡ bytes_or y o
    below None h = absurd (false≢true h)
    below (Some f) h = refl
