-- The list of the pages that a turn wrote.
use Rattle.std.proofs.Common.{◌≡◌, drop-cons, drop_of_length-le, ◌≢◌, ap₂, replicate, ⊎_elim, ℕ, ◌+◌, ◌<◌, ◌≤◌, suc, zero, List, [], ◌∷◌, ◌++◌, length, drop, get_or, set, Bool, true, false, refl, sym, ap, ◌∙◌, subst, arith, get_or-set_other, get_or-set_same, cond}
use Rattle.std.proofs.lemmas.Bool.Decides.{eqb_tells}
use Rattle.ken_pages.specs.declared.page.Page.{Page}
use Rattle.ken_pages.specs.Layout.{times, once, Lists, is_kept, kept_pages}
use Rattle.ken_pages.proofs.Pages.{length_map, map_set}

pub times-push : (p : ℕ) (qs : List ℕ) (q : ℕ) → times p (qs ++ q ∷ []) ≡ times p qs + times p (q ∷ [])
times-push p [] q = omega arith
times-push p (x ∷ qs) q =
    let rest : times p (qs ++ q ∷ []) ≡ times p qs + times p (q ∷ []) = times-push p qs q in
    omega (arith, rest)

pub times-same : (p : ℕ) → times p (p ∷ []) ≡ 1
times-same p = ⊎_elim (λ h. ap (λ b. cond b 1 0 + 0) h.0) (λ h. absurd (h.1 refl)) (eqb_tells p p)

pub times-other : (p q : ℕ) → p ≢ q → times p (q ∷ []) ≡ 0
times-other p q ne = ⊎_elim (λ h. absurd (ne h.1)) (λ h. ap (λ b. cond b 1 0 + 0) h.0) (eqb_tells p q)

-- a test that says of each place what another does says the same
pub Lists-read : (first : List ℕ) (a b : List Bool) → ((p : ℕ) → get_or a p false ≡ get_or b p false) → Lists first b → Lists first a
Lists-read first a b same listed p = listed p ∙ ap once (sym (same p))

-- one page more
pub Lists-more : (first : List ℕ) (kept : List Bool) (q : ℕ) → q < length kept → get_or kept q false ≡ false → Lists first kept → Lists (first ++ q ∷ []) (set kept q true)
Lists-more first kept q below none listed p = times-push p first q ∙ ⊎_elim (λ h. here h.1) (λ h. there h.1) (eqb_tells p q)
  where
    here : p ≡ q → times p first + times p (q ∷ []) ≡ once (get_or (set kept q true) p false)
    here is =
        let no : times p first ≡ 0 = listed p ∙ ap (λ i. once (get_or kept i false)) is ∙ ap once none in
        let yes : times p (q ∷ []) ≡ 1 = ap (λ i. times i (q ∷ [])) is ∙ times-same q in
        let kept_now : once (get_or (set kept q true) p false) ≡ 1 = ap (λ i. once (get_or (set kept q true) i false)) is ∙ ap once (get_or-set_same kept q true false below) in
        omega (arith, no, yes, kept_now)

    there : p ≢ q → times p first + times p (q ∷ []) ≡ once (get_or (set kept q true) p false)
    there ne =
        let no : times p (q ∷ []) ≡ 0 = times-other p q ne in
        let as_before : times p first ≡ once (get_or kept p false) = listed p in
        let same : once (get_or (set kept q true) p false) ≡ once (get_or kept p false) = ap once (get_or-set_other kept q p true false ne) in
        omega (arith, no, as_before, same)

-- one page that is kept already
pub Lists-again : (first : List ℕ) (kept : List Bool) (q : ℕ) → q < length kept → get_or kept q false ≡ true → Lists first kept → Lists first (set kept q true)
Lists-again first kept q below is listed = Lists-read first (set kept q true) kept same listed
  where
    same : (p : ℕ) → get_or (set kept q true) p false ≡ get_or kept p false
    same p = ⊎_elim (λ h. ap (λ i. get_or (set kept q true) i false) h.1 ∙ get_or-set_same kept q true false below ∙ sym is ∙ ap (λ i. get_or kept i false) (sym h.1)) (λ h. get_or-set_other kept q p true false h.1) (eqb_tells p q)

-- the first of the list is kept; without it the rest is the list
pub Lists-head : (q : ℕ) (qs : List ℕ) (kept : List Bool) → Lists (q ∷ qs) kept → get_or kept q false ≡ true
Lists-head q qs kept listed = some (get_or kept q false) (listed q)
  where
    some : (b : Bool) → times q (q ∷ qs) ≡ once b → b ≡ true
    some true h = refl
    some false h =
        let one : times q (q ∷ []) ≡ 1 = times-same q in
        absurd (omega (arith, h, one))

pub Lists-tail : (q : ℕ) (qs : List ℕ) (kept : List Bool) → q < length kept → Lists (q ∷ qs) kept → Lists qs (set kept q false)
Lists-tail q qs kept below listed p = ⊎_elim (λ h. here h.1) (λ h. there h.1) (eqb_tells p q)
  where
    here : p ≡ q → times p qs ≡ once (get_or (set kept q false) p false)
    here is =
        let yes : times p (q ∷ []) ≡ 1 = ap (λ i. times i (q ∷ [])) is ∙ times-same q in
        let before : times p (q ∷ qs) ≡ 1 = listed p ∙ ap (λ i. once (get_or kept i false)) is ∙ ap once (Lists-head q qs kept listed) in
        let now : once (get_or (set kept q false) p false) ≡ 0 = ap (λ i. once (get_or (set kept q false) i false)) is ∙ ap once (get_or-set_same kept q false false below) in
        omega (arith, yes, before, now)

    there : p ≢ q → times p qs ≡ once (get_or (set kept q false) p false)
    there ne =
        let no : times p (q ∷ []) ≡ 0 = times-other p q ne in
        let before : times p (q ∷ qs) ≡ once (get_or kept p false) = listed p in
        let same : once (get_or (set kept q false) p false) ≡ once (get_or kept p false) = ap once (get_or-set_other kept q p false false ne) in
        omega (arith, no, before, same)

-- a kept page is a page
pub below_kept : (kept : List Bool) (q : ℕ) → get_or kept q false ≡ true → q < length kept
below_kept [] q is = absurd cc
below_kept (b ∷ bs) zero is = omega arith
below_kept (b ∷ bs) (suc q) is =
    let rest : q < length bs = below_kept bs q is in
    omega arith

-- where the list is empty the turn wrote no page
pub none_listed : (kept : List Bool) → Lists [] kept → kept ≡ replicate (length kept) false
none_listed [] listed = refl
none_listed (b ∷ bs) listed = ap₂ (λ x xs. x ∷ xs) (first b (listed 0)) (none_listed bs (λ p. listed (suc p)))
  where
    first : (b : Bool) → 0 ≡ once b → b ≡ false
    first true h = absurd (omega (arith, h))
    first false h = refl

-- the page that comes next in a list, and what is left of it
pub listed_kept : (ps : List Page) (first : List ℕ) (i : ℕ) → Lists (drop i first) (kept_pages ps) → i < length first → get_or (kept_pages ps) (get_or first i 0) false ≡ true
listed_kept ps first i listed within = Lists-head (get_or first i 0) (drop (suc i) first) (kept_pages ps) (subst (λ qs. Lists qs (kept_pages ps)) (drop-cons first i 0 within) listed)

pub listed_below : (ps : List Page) (first : List ℕ) (i : ℕ) → Lists (drop i first) (kept_pages ps) → i < length first → get_or first i 0 < length ps
listed_below ps first i listed within = omega (arith, below_kept (kept_pages ps) (get_or first i 0) (listed_kept ps first i listed within), length_map is_kept ps)

pub listed_next : (ps : List Page) (first : List ℕ) (i : ℕ) (x : Page) → Lists (drop i first) (kept_pages ps) → i < length first → is_kept x ≡ false → Lists (drop (i + 1) first) (kept_pages (set ps (get_or first i 0) x))
listed_next ps first i x listed within none =
    let q = get_or first i 0 in
    let below : q < length (kept_pages ps) = below_kept (kept_pages ps) q (listed_kept ps first i listed within) in
    let now : kept_pages (set ps q x) ≡ set (kept_pages ps) q false = map_set is_kept ps q x ∙ ap (λ b. set (kept_pages ps) q b) none in
    let rest : Lists (drop (suc i) first) (set (kept_pages ps) q false) = Lists-tail q (drop (suc i) first) (kept_pages ps) below (subst (λ qs. Lists qs (kept_pages ps)) (drop-cons first i 0 within) listed) in
    let step : suc i ≡ i + 1 = omega arith in
    subst (λ n. Lists (drop n first) (kept_pages (set ps q x))) step (subst (λ ks. Lists (drop (suc i) first) ks) (sym now) rest)

-- at the end of the list no page is kept
pub listed_all : (ps : List Page) (first : List ℕ) (i : ℕ) → Lists (drop i first) (kept_pages ps) → length first ≤ i → kept_pages ps ≡ replicate (length ps) false
listed_all ps first i listed end =
    none_listed (kept_pages ps) (subst (λ qs. Lists qs (kept_pages ps)) (drop_of_length-le first end) listed) ∙ ap (λ n. replicate n false) (length_map is_kept ps)

pub kept_below : (ps : List Page) (p : ℕ) → get_or (kept_pages ps) p false ≡ true → p < length ps
kept_below ps p is = omega (arith, below_kept (kept_pages ps) p is, length_map is_kept ps)

-- a page in the list is kept, and a page
times-at : (qs : List ℕ) (i d : ℕ) → i < length qs → 1 ≤ times (get_or qs i d) qs
times-at [] i d within = absurd (omega arith)
times-at (q ∷ qs) zero d within =
    let one : times q (q ∷ []) ≡ 1 = times-same q in
    omega (arith, one)
times-at (q ∷ qs) (suc i) d within =
    let rest : 1 ≤ times (get_or qs i d) qs = times-at qs i d (omega arith) in
    omega (arith, rest)

pub kept_at : (kept : List Bool) (first : List ℕ) (i d : ℕ) → Lists first kept → i < length first → get_or kept (get_or first i d) false ≡ true
kept_at kept first i d listed within = go (get_or kept (get_or first i d) false) (listed (get_or first i d))
  where
    go : (b : Bool) → times (get_or first i d) first ≡ once b → b ≡ true
    go true e = refl
    go false e = absurd (omega (arith, e, times-at first i d within))

pub listed_at : (ps : List Page) (first : List ℕ) (i : ℕ) → Lists first (kept_pages ps) → i < length first → get_or first i 0 < length ps
listed_at ps first i listed within = kept_below ps (get_or first i 0) (kept_at (kept_pages ps) first i 0 listed within)

-- the empty list is the list of no kept page
pub Lists-none : (n : ℕ) → Lists [] (replicate n false)
Lists-none zero p = refl
Lists-none (suc n) zero = refl
Lists-none (suc n) (suc p) = Lists-none n p

-- where the list is empty
pub not_listed : (kept : List Bool) (p : ℕ) → Lists [] kept → get_or kept p false ≡ false
not_listed kept p listed = go (get_or kept p false) (listed p)
  where
    go : (b : Bool) → 0 ≡ once b → b ≡ false
    go true e = absurd (omega (arith, e))
    go false e = refl
