-- How many frames a turn has of its own, and how many it lacks.
use Rattle.std.proofs.Common.{◌≡◌, ◌≢◌, ⊎_elim, true≢false, cond, ℕ, ◌+◌, ◌-◌, ◌/◌, ◌<◌, ◌≤◌, suc, zero, List, [], ◌∷◌, length, map, get_or, set, replicate, Bool, true, false, refl, sym, ap, ap₂, ◌∙◌, arith, Option, Some, None, is_some, drop, ◌&&◌}
use Rattle.std.specs.Prelude.{◌==◌}
use Rattle.std.proofs.lemmas.Bool.Decides.{eqb_tells}
use Rattle.ken_pages.specs.declared.page.Held.{Held}
use Rattle.ken_pages.specs.declared.page.Page.{Page}
use Rattle.ken_pages.specs.Paged.{missing, lacking, with_own, own_count, touched}
use Rattle.ken_pages.proofs.Pages.{at_map, map_set, length_map}
use Rattle.ken_pages.specs.Layout.{now_of, was_of, is_own, is_kept, is_frame_own, bytes_in, first_of}

-- no more are lacking than pages
pub lacking-few : (from n : ℕ) (own : List Bool) → lacking from n own ≤ n
lacking-few from n [] = omega arith
lacking-few zero zero (b ∷ bs) = omega arith
lacking-few zero (suc n) (true ∷ bs) = let rest : lacking zero n bs ≤ n = lacking-few zero n bs in omega arith
lacking-few zero (suc n) (false ∷ bs) = let rest : lacking zero n bs ≤ n = lacking-few zero n bs in omega arith
lacking-few (suc from) n (b ∷ bs) = lacking-few from n bs

pub lacking-none : (from : ℕ) (own : List Bool) → lacking from 0 own ≡ 0
lacking-none from [] = refl
lacking-none zero (b ∷ bs) = refl
lacking-none (suc from) (b ∷ bs) = lacking-none from bs

-- one page more
pub lacking-more : (from n p : ℕ) (own : List Bool) → p ≡ from + n → p < length own → lacking from (suc n) own ≡ lacking from n own + missing (get_or own p false)
lacking-more from n p [] is below = absurd (omega arith)
lacking-more zero zero zero (b ∷ bs) is below =
    let none : lacking zero 0 bs ≡ 0 = lacking-none zero bs in
    omega (arith, none)
lacking-more zero zero (suc p) (b ∷ bs) is below = absurd (omega (arith, is))
lacking-more zero (suc n) zero (b ∷ bs) is below = absurd (omega (arith, is))
lacking-more zero (suc n) (suc p) (b ∷ bs) is below =
    let rest : lacking zero (suc n) bs ≡ lacking zero n bs + missing (get_or bs p false) = lacking-more zero n p bs (omega (arith, is)) (omega (arith, below)) in
    omega (arith, rest)
lacking-more (suc from) n zero (b ∷ bs) is below = absurd (omega (arith, is))
lacking-more (suc from) n (suc p) (b ∷ bs) is below = lacking-more from n p bs (omega (arith, is)) (omega (arith, below))

-- for more pages no fewer are lacking
pub lacking-grows : (from k n : ℕ) (own : List Bool) → k ≤ n → lacking from k own ≤ lacking from n own
lacking-grows from k n [] le = omega arith
lacking-grows zero zero n (b ∷ bs) le = omega arith
lacking-grows zero (suc k) zero (b ∷ bs) le = absurd (omega (arith, le))
lacking-grows zero (suc k) (suc n) (b ∷ bs) le =
    let rest : lacking zero k bs ≤ lacking zero n bs = lacking-grows zero k n bs (omega (arith, le)) in
    omega (arith, rest)
lacking-grows (suc from) k n (b ∷ bs) le = lacking-grows from k n bs le

pub with_own-none : (from : ℕ) (own : List Bool) → with_own from 0 own ≡ own
with_own-none from [] = refl
with_own-none zero (b ∷ bs) = refl
with_own-none (suc from) (b ∷ bs) = ap (λ cs. b ∷ cs) (with_own-none from bs)

pub with_own-more : (from n p : ℕ) (own : List Bool) → p ≡ from + n → set (with_own from n own) p true ≡ with_own from (suc n) own
with_own-more from n p [] is = refl
with_own-more zero zero zero (b ∷ bs) is = ap (λ cs. true ∷ cs) (sym (with_own-none zero bs))
with_own-more zero zero (suc p) (b ∷ bs) is = absurd (omega (arith, is))
with_own-more zero (suc n) zero (b ∷ bs) is = absurd (omega (arith, is))
with_own-more zero (suc n) (suc p) (b ∷ bs) is = ap (λ cs. true ∷ cs) (with_own-more zero n p bs (omega (arith, is)))
with_own-more (suc from) n zero (b ∷ bs) is = absurd (omega (arith, is))
with_own-more (suc from) n (suc p) (b ∷ bs) is = ap (λ cs. b ∷ cs) (with_own-more from n p bs (omega (arith, is)))

-- a page that isn't among them is as before
pub get_or-with_own : (from n p : ℕ) (own : List Bool) → from + n ≤ p → get_or (with_own from n own) p false ≡ get_or own p false
get_or-with_own from n p [] past = refl
get_or-with_own zero zero p (b ∷ bs) past = refl
get_or-with_own zero (suc n) zero (b ∷ bs) past = absurd (omega arith)
get_or-with_own zero (suc n) (suc p) (b ∷ bs) past = get_or-with_own zero n p bs (omega arith)
get_or-with_own (suc from) n zero (b ∷ bs) past = absurd (omega arith)
get_or-with_own (suc from) n (suc p) (b ∷ bs) past = get_or-with_own from n p bs (omega arith)

-- one that is among them is the turn's own
pub own-with_own : (from n p : ℕ) (own : List Bool) → from ≤ p → p < from + n → p < length own → get_or (with_own from n own) p false ≡ true
own-with_own from n p [] low high below = absurd (omega arith)
own-with_own zero zero p (b ∷ bs) low high below = absurd (omega arith)
own-with_own zero (suc n) zero (b ∷ bs) low high below = refl
own-with_own zero (suc n) (suc p) (b ∷ bs) low high below = own-with_own zero n p bs (omega arith) (omega arith) (omega arith)
own-with_own (suc from) n zero (b ∷ bs) low high below = absurd (omega arith)
own-with_own (suc from) n (suc p) (b ∷ bs) low high below = own-with_own from n p bs (omega arith) (omega arith) (omega arith)

pub length-with_own : (from n : ℕ) (own : List Bool) → length (with_own from n own) ≡ length own
length-with_own from n [] = refl
length-with_own zero zero (b ∷ bs) = refl
length-with_own zero (suc n) (b ∷ bs) = ap suc (length-with_own zero n bs)
length-with_own (suc from) n (b ∷ bs) = ap suc (length-with_own from n bs)

-- one frame fewer
pub own_count-set : (own : List Bool) (p : ℕ) → p < length own → own_count own ≡ own_count (set own p false) + (1 - missing (get_or own p false))
own_count-set [] p below = absurd (omega arith)
own_count-set (b ∷ bs) zero below = omega arith
own_count-set (b ∷ bs) (suc p) below =
    let rest : own_count bs ≡ own_count (set bs p false) + (1 - missing (get_or bs p false)) = own_count-set bs p (omega arith) in
    omega (arith, rest)

-- a page that the turn didn't write isn't its own
pub not_own : (p : Page) → is_kept p ≡ false → is_own p ≡ false
not_own p none = ap (λ b. b && is_frame_own p.held) none

-- where the turn wrote no page it has no frame of its own, and all is as it was
pub none_own : (ps : List Page) (n : ℕ) → map is_kept ps ≡ replicate n false → map is_own ps ≡ replicate n false
none_own [] zero none = refl
none_own [] (suc n) none = absurd cc
none_own (p ∷ ps) zero none = absurd cc
none_own (p ∷ ps) (suc n) none = ap₂ (λ x xs. x ∷ xs) (not_own p (ap (λ xs. get_or xs 0 false) none)) (none_own ps n (ap (drop 1) none))

-- and is as it was
pub was_unless : (p : Page) → is_kept p ≡ false → was_of p ≡ now_of p
was_unless p none = go p.before none
  where
    go : (o : Option Held) → is_some o ≡ false → bytes_in (first_of o p.held) ≡ bytes_in p.held
    go None e = refl
    go (Some x) e = absurd cc

pub none_was : (ps : List Page) (n : ℕ) → map is_kept ps ≡ replicate n false → map was_of ps ≡ map now_of ps
none_was [] n none = refl
none_was (p ∷ ps) zero none = absurd cc
none_was (p ∷ ps) (suc n) none = ap₂ (λ x xs. x ∷ xs) (was_unless p (ap (λ xs. get_or xs 0 false) none)) (none_was ps n (ap (drop 1) none))

pub own_count-none : (n : ℕ) → own_count (replicate n false) ≡ 0
own_count-none zero = refl
own_count-none (suc n) = omega (arith, own_count-none n)

-- one page is the turn's own no more
pub own_count-gone : (ps : List Page) (q : ℕ) (x d : Page) → q < length ps → is_kept x ≡ false → own_count (map is_own ps) ≡ own_count (map is_own (set ps q x)) + (1 - missing (is_own (get_or ps q d)))
own_count-gone ps q x d below none =
    let now : map is_own (set ps q x) ≡ set (map is_own ps) q false = map_set is_own ps q x ∙ ap (λ b. set (map is_own ps) q b) (not_own x none) in
    own_count-set (map is_own ps) q (omega (arith, below, length_map is_own ps)) ∙ ap₂ (λ n b. n + (1 - missing b)) (ap own_count (sym now)) (at_map is_own ps q d false below)

-- one byte at least touches pages up to its last one's
pub touched-some : (at n : ℕ) → 1 ≤ n → touched at n ≡ (at + n - 1) / 256 + 1 - at / 256
touched-some at n some = ⊎_elim (λ h. absurd (omega (arith, h.1, some))) (λ h. ap (λ b. cond b 0 ((at + n - 1) / 256 + 1 - at / 256)) h.0) (eqb_tells n 0)

-- a test that says that it isn't 0
pub some_unless : (n : ℕ) → (n == 0) ≡ false → 1 ≤ n
some_unless n none = ⊎_elim (λ h. absurd (true≢false (sym h.0 ∙ none))) (λ h. above n h.1) (eqb_tells n 0)
  where
    above : (n : ℕ) → n ≢ 0 → 1 ≤ n
    above zero ne = absurd (ne refl)
    above (suc n) ne = omega arith
