-- The pages that a turn changed, in rising order.
use Rattle.std.proofs.Common.{◌≡◌, ◌≢◌, ℕ, ◌+◌, ◌/◌, ◌<◌, ◌≤◌, suc, zero, List, [], ◌∷◌, ◌++◌, length, map, take, drop, get_or, refl, sym, ap, ap₂, ◌∙◌, arith, Bool, true, false, not, cond, ⊎_elim, true≢false, take-suc}
use Rattle.std.specs.List.{filter, range_with_len}
use Rattle.std.specs.List.Sorted.{IsPermutation, IsSorted, IsNonDecreasingBy}
use Rattle.std.specs.Str.{bytes_eq}
use Rattle.std.specs.Ordering.{nat_cmp, MatchOrdering}
use Rattle.std.specs.declared.cmp.Ordering.{Ordering}
use Rattle.std.specs.declared.cmp.Ordering.TheVariants.{Less, Equal, Greater}
use Rattle.std.proofs.lemmas.Cmp.{ranked, nat_cmp_total}
use Rattle.std.proofs.lemmas.Bool.Decides.{eqb_tells}
use Rattle.std.proofs.lemmas.List.Sorted.{sum_by-IsPermutation, IsNonDecreasingBy-from_sort, IsPermutation-refl}
use Rattle.std.proofs.lemmas.List.Kept.{IsSortedBy-filter}
use Rattle.std.proofs.lemmas.List.MinMax.{ranks_by}
use Rattle.std.specs.Ordering.{is_lt}
use Rattle.std.specs.List.{fold, sum_by}
use Rattle.ken_pages.specs.declared.page.Page.{Page}
use Rattle.ken_pages.specs.Paged.{page_of, page_differs, dirty_pages}
use Rattle.ken_pages.specs.Layout.{ArePages, Lists, times, once, now_of, was_of, is_kept, differs, differs_at, now_bytes, was_bytes, kept_pages}
use Rattle.std.proofs.lemmas.Slice.Eq.{bytes_eq-Decides}
use Rattle.ken_pages.proofs.Counted.{was_unless}
use Rattle.ken_pages.proofs.Flat.{page_of-concat}
use Rattle.ken_pages.proofs.Listed.{times-same, times-other}
use Rattle.ken_pages.proofs.Pages.{at_map, length_map, length_pages}

-- each is at least low, and none falls below the one before it
abbrev Rises : ℕ → List ℕ → Type 0
Rises low [] = Unit {0}
Rises low (x ∷ xs) = (low ≤ x) × Rises x xs

Rises-lower : (a low : ℕ) (xs : List ℕ) → a ≤ low → Rises low xs → Rises a xs
Rises-lower a low [] le rises = tt
Rises-lower a low (x ∷ xs) le rises = (omega (arith, le, rises.0), rises.1)

-- what is below all is never there
times-below : (low p : ℕ) (xs : List ℕ) → Rises low xs → p < low → times p xs ≡ 0
times-below low p [] rises lt = refl
times-below low p (x ∷ xs) rises lt =
    let head : times p (x ∷ []) ≡ 0 = times-other p x (λ e. absurd (omega (arith, e, lt, rises.0))) in
    let rest : times p xs ≡ 0 = times-below x p xs rises.1 (omega (arith, lt, rises.0)) in
    omega (arith, head, rest)

-- rising lists that have each number as often are the same
rising_same : (a b : ℕ) (xs ys : List ℕ) → Rises a xs → Rises b ys → ((p : ℕ) → times p xs ≡ times p ys) → xs ≡ ys
rising_same a b [] [] ra rb same = refl
rising_same a b [] (y ∷ ys) ra rb same = absurd (omega (arith, same y, times-same y))
rising_same a b (x ∷ xs) [] ra rb same = absurd (omega (arith, same x, times-same x))
rising_same a b (x ∷ xs) (y ∷ ys) ra rb same = go (nat_cmp x y) (ranked x y (nat_cmp x y) refl) (λ rest. rising_same x y xs ys ra.1 rb.1 rest)
  where
    go : (o : Ordering) → MatchOrdering o (x < y) (x ≡ y) (y < x) → (((p : ℕ) → times p xs ≡ times p ys) → xs ≡ ys) → x ∷ xs ≡ y ∷ ys
    go Less lt tails =
        let here : times x (y ∷ ys) ≡ 0 = times-below y x (y ∷ ys) (omega arith, rb.1) lt in
        absurd (omega (arith, here, same x, times-same x))
    go Equal is tails = ap₂ (λ z zs. z ∷ zs) is (tails rest)
      where
        rest : (p : ℕ) → times p xs ≡ times p ys
        rest p =
            let both : times p (x ∷ xs) ≡ times p (y ∷ ys) = same p in
            let head : times p (x ∷ []) ≡ times p (y ∷ []) = ap (λ z. times p (z ∷ [])) is in
            omega (arith, both, head)
    go Greater gt tails =
        let here : times y (x ∷ xs) ≡ 0 = times-below x y (x ∷ xs) (omega arith, ra.1) gt in
        absurd (omega (arith, here, same y, times-same y))

-- a sorted list rises
rises_on : (x : ℕ) (xs : List ℕ) → IsNonDecreasingBy (λ y. y) (x ∷ xs) → Rises x xs
rises_on x [] ok = tt
rises_on x (y ∷ ys) ok = (ok 0 1 0 (omega arith) (omega arith), rises_on y ys (λ i j d le lt. ok (suc i) (suc j) d (omega (arith, le)) (omega (arith, lt))))

pub rises_sorted : (xs : List ℕ) → IsSorted nat_cmp xs → Rises 0 xs
rises_sorted [] sorted = tt
rises_sorted (x ∷ xs) sorted = (omega arith, rises_on x xs (IsNonDecreasingBy-from_sort (λ y. y) (x ∷ xs) sorted))

-- a range rises, and so does what is taken from it
rises_filter : (P : ℕ → Bool) (a n : ℕ) → Rises a (filter P (range_with_len a n))
rises_filter P a zero = tt
rises_filter P a (suc n) = go (P a) (rises_filter P (a + 1) n)
  where
    go : (b : Bool) → Rises (a + 1) (filter P (range_with_len (a + 1) n)) → Rises a (cond b (a ∷ filter P (range_with_len (a + 1) n)) (filter P (range_with_len (a + 1) n)))
    go true rest = (omega arith, Rises-lower a (a + 1) (filter P (range_with_len (a + 1) n)) (omega arith) rest)
    go false rest = Rises-lower a (a + 1) (filter P (range_with_len (a + 1) n)) (omega arith) rest

-- how often a number is among those that pass
times-filter : (P : ℕ → Bool) (p : ℕ) (xs : List ℕ) → times p (filter P xs) ≡ cond (P p) (times p xs) 0
times-filter P p [] = none (P p)
  where
    none : (b : Bool) → ◌≡◌ {A = ℕ} 0 (cond b 0 0)
    none true = refl
    none false = refl
times-filter P p (x ∷ xs) = ⊎_elim (λ h. here h.1 (times-filter P p xs)) (λ h. there h.1 (times-filter P p xs)) (eqb_tells p x)
  where
    here : p ≡ x → times p (filter P xs) ≡ cond (P p) (times p xs) 0 → times p (cond (P x) (x ∷ filter P xs) (filter P xs)) ≡ cond (P p) (times p (x ∷ xs)) 0
    here is rest = ap (λ y. times p (cond (P y) (x ∷ filter P xs) (filter P xs))) (sym is) ∙ go (P p) rest
      where
        go : (b : Bool) → times p (filter P xs) ≡ cond b (times p xs) 0 → times p (cond b (x ∷ filter P xs) (filter P xs)) ≡ cond b (times p (x ∷ xs)) 0
        go true r = omega (arith, r)
        go false r = r

    there : p ≢ x → times p (filter P xs) ≡ cond (P p) (times p xs) 0 → times p (cond (P x) (x ∷ filter P xs) (filter P xs)) ≡ cond (P p) (times p (x ∷ xs)) 0
    there ne rest = go (times-other p x ne) (P x) (P p) rest
      where
        go : times p (x ∷ []) ≡ 0 → (b c : Bool) → times p (filter P xs) ≡ cond c (times p xs) 0 → times p (cond b (x ∷ filter P xs) (filter P xs)) ≡ cond c (times p (x ∷ xs)) 0
        go none true true r = omega (arith, r, none)
        go none true false r = omega (arith, r, none)
        go none false true r = omega (arith, r, none)
        go none false false r = r

times-past : (p a n : ℕ) → a + n ≤ p → times p (range_with_len a n) ≡ 0
times-past p a zero past = refl
times-past p a (suc n) past =
    let head : times p (a ∷ []) ≡ 0 = times-other p a (λ e. absurd (omega (arith, e, past))) in
    let rest : times p (range_with_len (a + 1) n) ≡ 0 = times-past p (a + 1) n (omega (arith, past)) in
    omega (arith, head, rest)

times-before : (p a n : ℕ) → p < a → times p (range_with_len a n) ≡ 0
times-before p a zero lt = refl
times-before p a (suc n) lt =
    let head : times p (a ∷ []) ≡ 0 = times-other p a (λ e. absurd (omega (arith, e, lt))) in
    let rest : times p (range_with_len (a + 1) n) ≡ 0 = times-before p (a + 1) n (omega (arith, lt)) in
    omega (arith, head, rest)

-- a number is once in a range, or not at all
times-range : (p a n : ℕ) → a ≤ p → p < a + n → times p (range_with_len a n) ≡ 1
times-range p a zero low high = absurd (omega arith)
times-range p a (suc n) low high = ⊎_elim (λ h. here h.1) (λ h. there h.1 (λ l k. times-range p (a + 1) n l k)) (eqb_tells p a)
  where
    here : p ≡ a → times p (a ∷ range_with_len (a + 1) n) ≡ 1
    here is =
        let one : times p (a ∷ []) ≡ 1 = ap (λ q. times q (a ∷ [])) is ∙ times-same a in
        let none : times p (range_with_len (a + 1) n) ≡ 0 = times-before p (a + 1) n (omega (arith, is)) in
        omega (arith, one, none)

    there : p ≢ a → (a + 1 ≤ p → p < a + 1 + n → times p (range_with_len (a + 1) n) ≡ 1) → times p (a ∷ range_with_len (a + 1) n) ≡ 1
    there ne later =
        let head : times p (a ∷ []) ≡ 0 = times-other p a ne in
        let rest : times p (range_with_len (a + 1) n) ≡ 1 = later (omega (arith, low, ne)) (omega (arith, high)) in
        omega (arith, head, rest)

times-permutation : (p : ℕ) (xs ys : List ℕ) → IsPermutation xs ys → times p ys ≡ times p xs
times-permutation p xs ys perm =
    let sums : sum_by (λ q. times p (q ∷ [])) ys ≡ sum_by (λ q. times p (q ∷ [])) xs = sum_by-IsPermutation (λ q. times p (q ∷ [])) xs ys perm in
    omega (arith, sums, summed p 0 ys, summed p 0 xs)
  where
    summed : (p a : ℕ) (xs : List ℕ) → fold (λ b x. b + times p (x ∷ [])) a xs ≡ a + times p xs
    summed p a [] = omega arith
    summed p a (x ∷ xs) =
        let rest : fold (λ b x. b + times p (x ∷ [])) (a + times p (x ∷ [])) xs ≡ a + times p (x ∷ []) + times p xs = summed p (a + times p (x ∷ [])) xs in
        rest ∙ omega arith

nothing : (b : Bool) → ◌≡◌ {A = ℕ} 0 (cond b 0 0)
nothing true = refl
nothing false = refl

-- a page that is in the list is one
page_there : (ps : List Page) (p : ℕ) → p < length ps → Page
page_there [] p below = absurd (omega arith)
page_there (x ∷ ps) p below = x

-- bytes against themselves
bytes_eq-same : (xs ys : List ℕ) → xs ≡ ys → bytes_eq xs ys ≡ true
bytes_eq-same xs ys same = (bytes_eq-Decides xs ys).1 same

module _ (ps : List Page) (pages : ArePages ps) where
  -- the test by the pages is the test by the bytes
  same_test : (p : ℕ) → p < length ps → page_differs (was_bytes ps) (now_bytes ps) p ≡ differs_at ps p
  same_test p below =
      let d = page_there ps p below in
      let was : page_of (was_bytes ps) p ≡ was_of (get_or ps p d) = page_of-concat (map was_of ps) p pages.was (omega (arith, below, length_map was_of ps)) ∙ at_map was_of ps p d [] below in
      let now : page_of (now_bytes ps) p ≡ now_of (get_or ps p d) = page_of-concat (map now_of ps) p pages.now (omega (arith, below, length_map now_of ps)) ∙ at_map now_of ps p d [] below in
      ap₂ (λ a b. not (bytes_eq a b)) was now ∙ sym (at_map differs ps p d false below)

  -- a page that the turn didn't write is as it was
  kept_if : (p : ℕ) → p < length ps → differs_at ps p ≡ true → get_or (kept_pages ps) p false ≡ true
  kept_if p below is =
      let d = page_there ps p below in
      at_map is_kept ps p d false below ∙ go (is_kept (get_or ps p d)) refl (sym (at_map differs ps p d false below) ∙ is)
    where
      go : (b : Bool) → is_kept (get_or ps p (page_there ps p below)) ≡ b → differs (get_or ps p (page_there ps p below)) ≡ true → b ≡ true
      go true e h = refl
      go false e h =
          let x = get_or ps p (page_there ps p below) in
          let same : was_of x ≡ now_of x = was_unless x e in
          absurd (true≢false (sym h ∙ ap not (bytes_eq-same (was_of x) (now_of x) same)))

  -- the pages that differ, each once
  times_same : (first : List ℕ) → Lists first (kept_pages ps) → (p : ℕ) → times p (filter (differs_at ps) first) ≡ times p (filter (page_differs (was_bytes ps) (now_bytes ps)) (range_with_len 0 (length ps)))
  times_same first listed p = times-filter (differs_at ps) p first ∙ go (nat_cmp p (length ps)) (ranked p (length ps) (nat_cmp p (length ps)) refl) ∙ sym (times-filter (page_differs (was_bytes ps) (now_bytes ps)) p (range_with_len 0 (length ps)))
    where
      inside : p < length ps → (b : Bool) → differs_at ps p ≡ b → cond b (times p first) 0 ≡ cond b (times p (range_with_len 0 (length ps))) 0
      inside below true is = listed p ∙ ap once (kept_if p below is) ∙ sym (times-range p 0 (length ps) (omega arith) (omega (arith, below)))
      inside below false is = refl

      past : (n : ℕ) (xs : List Bool) → length xs ≤ n → get_or xs n false ≡ false
      past n [] le = refl
      past zero (x ∷ xs) le = absurd (omega (arith, le))
      past (suc n) (x ∷ xs) le = past n xs (omega (arith, le))

      outside : length ps ≤ p → cond (differs_at ps p) (times p first) 0 ≡ cond (page_differs (was_bytes ps) (now_bytes ps) p) (times p (range_with_len 0 (length ps))) 0
      outside le =
          ap (λ b. cond b (times p first) 0) (past p (map differs ps) (omega (arith, le, length_map differs ps)))
          ∙ nothing (page_differs (was_bytes ps) (now_bytes ps) p) ∙ ap (λ n. cond (page_differs (was_bytes ps) (now_bytes ps) p) n 0) (sym (times-past p 0 (length ps) (omega (arith, le))))

      within : p < length ps → cond (differs_at ps p) (times p first) 0 ≡ cond (page_differs (was_bytes ps) (now_bytes ps) p) (times p (range_with_len 0 (length ps))) 0
      within below =
          inside below (differs_at ps p) refl ∙ ap (λ b. cond b (times p (range_with_len 0 (length ps))) 0) (sym (same_test p below))

      go : (o : Ordering) → MatchOrdering o (p < length ps) (p ≡ length ps) (length ps < p) → cond (differs_at ps p) (times p first) 0 ≡ cond (page_differs (was_bytes ps) (now_bytes ps) p) (times p (range_with_len 0 (length ps))) 0
      go Less lt = within lt
      go Equal is = outside (omega (arith, is))
      go Greater gt = outside (omega (arith, gt))

-- the pages that differ, sorted, are the dirty ones
pub dirty_listed : (ps : List Page) (first out : List ℕ) → ArePages ps → Lists first (kept_pages ps) → IsPermutation (filter (differs_at ps) first) out → IsSorted nat_cmp out → out ≡ dirty_pages (was_bytes ps) (now_bytes ps)
dirty_listed ps first out pages listed perm sorted =
    let P = page_differs (was_bytes ps) (now_bytes ps) in
    let long : length (now_bytes ps) / 256 ≡ length ps = omega (arith, length_pages ps pages) in
    rising_same 0 0 out (filter P (range_with_len 0 (length ps))) (rises_sorted out sorted) (rises_filter P 0 (length ps)) (λ p. times-permutation p (filter (differs_at ps) first) out perm ∙ times_same ps pages first listed p)
    ∙ ap (λ n. filter P (range_with_len 0 n)) (sym long)

-- one page more is looked at
filter_snoc : (P : ℕ → Bool) (xs : List ℕ) (x : ℕ) → filter P (xs ++ x ∷ []) ≡ filter P xs ++ cond (P x) (x ∷ []) []
filter_snoc P [] x = refl
filter_snoc P (y ∷ xs) x = go (P y) (filter_snoc P xs x)
  where
    go : (b : Bool) → filter P (xs ++ x ∷ []) ≡ filter P xs ++ cond (P x) (x ∷ []) [] → cond b (y ∷ filter P (xs ++ x ∷ [])) (filter P (xs ++ x ∷ [])) ≡ cond b (y ∷ filter P xs) (filter P xs) ++ cond (P x) (x ∷ []) []
    go true rest = ap (λ zs. y ∷ zs) rest
    go false rest = rest

pub filter_more : (P : ℕ → Bool) (xs : List ℕ) (i : ℕ) → i < length xs → filter P (take (i + 1) xs) ≡ filter P (take i xs) ++ cond (P (get_or xs i 0)) (get_or xs i 0 ∷ []) []
filter_more P xs i within =
    let step : i + 1 ≡ suc i = omega arith in
    ap (λ n. filter P (take n xs)) step ∙ ap (filter P) (take-suc xs i 0 within) ∙ filter_snoc P (take i xs) (get_or xs i 0)

-- pages with the same bytes, now and when the turn began, differ alike
pub differs_same : (ps qs : List Page) → map now_of ps ≡ map now_of qs → map was_of ps ≡ map was_of qs → map differs ps ≡ map differs qs
differs_same [] [] now was = refl
differs_same [] (q ∷ qs) now was = absurd cc
differs_same (p ∷ ps) [] now was = absurd cc
differs_same (p ∷ ps) (q ∷ qs) now was =
    let is : now_of p ≡ now_of q = ap (λ xs. get_or xs 0 []) now in
    let first : was_of p ≡ was_of q = ap (λ xs. get_or xs 0 []) was in
    ap₂ (λ x xs. x ∷ xs) (ap₂ (λ a b. not (bytes_eq a b)) first is) (differs_same ps qs (ap (drop 1) now) (ap (drop 1) was))

-- the pages of a sorted list that differ are the dirty ones
pub dirty_sorted : (ps : List Page) (first : List ℕ) → ArePages ps → Lists first (kept_pages ps) → IsSorted nat_cmp first → filter (differs_at ps) first ≡ dirty_pages (was_bytes ps) (now_bytes ps)
dirty_sorted ps first pages listed sorted =
    let changed = filter (differs_at ps) first in
    dirty_listed ps first changed pages listed (IsPermutation-refl changed) (IsSortedBy-filter (λ x y. is_lt (nat_cmp x y)) (ranks_by nat_cmp_total (λ (x : ℕ). x)) (differs_at ps) first sorted)

-- a list of pages in another order lists the same pages
pub Lists-permutation : (first other : List ℕ) (kept : List Bool) → IsPermutation first other → Lists first kept → Lists other kept
Lists-permutation first other kept perm listed p = times-permutation p first other perm ∙ listed p
