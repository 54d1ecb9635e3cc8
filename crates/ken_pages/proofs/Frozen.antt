-- Copies of the pages that a turn changed.
use Rattle.std.proofs.Common.{◌≡◌, ℕ, ◌<◌, ◌/◌, List, [], ◌∷◌, ◌++◌, length, map, All, Option, Some, None, IsSome, IfSome, refl, sym, ap, ◌∙◌, subst, arith, set, Bool, false}
use Rattle.std.specs.List.{filter, range_with_len}
use Rattle.std.specs.declared.sync.Arc.{Arc}
use Rattle.std.specs.Arc.{arc_value}
use Rattle.std.proofs.lemmas.List.{map_push}
use Rattle.std.proofs.lemmas.List.Elements.{All-filter}
use Rattle.std.proofs.lemmas.List.FromFn.{length-range_with_len, get_or-range_with_len}
use Rattle.ken_pages.specs.Paged.{page_of, page_differs, dirty_pages, without_own, with_bytes, shared_page, shared_pages}

-- one copy more
pub shared_pages_push : {Z : Type 0} (es new : List (ℕ × Arc (List ℕ) Z)) (p : ℕ) (a : Arc (List ℕ) Z) (now : List ℕ) (pages : List ℕ) → new ≡ es ++ (p, a) ∷ [] → shared_pages es ≡ map (with_bytes now) pages → arc_value a ≡ page_of now p → shared_pages new ≡ map (with_bytes now) (pages ++ p ∷ [])
shared_pages_push es new p a now pages pushed before value =
    let same : ◌≡◌ {A = ℕ × List ℕ} (shared_page (p, a)) (with_bytes now p) = ap (λ (v : List ℕ). let r : ℕ × List ℕ = (p, v) in r) value in
    ap (λ xs. shared_pages xs) pushed ∙ map_push shared_page es (p, a) ∙ ap (λ xs. xs ++ shared_page (p, a) ∷ []) before ∙ ap (λ x. map (with_bytes now) pages ++ x ∷ []) same ∙ sym (map_push (with_bytes now) pages p)

range_below : (n : ℕ) → All (λ p. p < n) (range_with_len 0 n)
range_below n k d within =
    let below : k < n = subst (λ m. k < m) (length-range_with_len 0 n) within in
    rw get_or-range_with_len (omega arith)

-- the dirty pages are pages
pub dirty_below : (begun : Option (List ℕ)) (now ps : List ℕ) (n : ℕ) → length now / 256 ≡ n → IsSome begun → IfSome begun (λ before. ps ≡ dirty_pages before now) → All (λ p. p < n) ps
dirty_below None now ps n long some is = absurd cc
dirty_below (Some before) now ps n long some is =
    subst (λ qs. All (λ p. p < n) qs) (sym (is ∙ ap (λ m. filter (page_differs before now) (range_with_len 0 m)) long)) (All-filter (page_differs before now) (λ p. p < n) (range_with_len 0 n) (range_below n))

-- one page more that the turn has no frame of its own for
pub without_own_push : (ps : List ℕ) (p : ℕ) (own : List Bool) → without_own (ps ++ p ∷ []) own ≡ set (without_own ps own) p false
without_own_push [] p own = refl
without_own_push (q ∷ ps) p own = without_own_push ps p (set own q false)
