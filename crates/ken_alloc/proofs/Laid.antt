-- A heap with no block, as it is written.
use Rattle.std.proofs.Common.{◌≡◌, ℕ, ◌+◌, ◌-◌, ◌*◌, ◌≤◌, List, ◌++◌, length, replicate, codes, refl, sym, ap, ◌∙◌, subst, arith}
use Rattle.std.proofs.lemmas.List.{length-replicate, drop-replicate}
use Rattle.byteorder.specs.Endian.{big_bytes}
use Rattle.ken_frame.specs.Written.{written}
use Rattle.ken_frame.proofs.Written.{written-written}
use Rattle.ken_model.specs.Network.{empty_heap}
use Rattle.ken_model.specs.Layout.{part, head_bytes, first_bytes, first_heap, StandsFor}
use Rattle.ken_model.proofs.First.{stands_empty}
use Rattle.ken_alloc.specs.Kept.{KeepsOutside}
use Rattle.ken_alloc.proofs.Kept.{KeepsOutside-after, part_after}

-- the header, and then the gap's head
pub laid_out : (old mid new header : List ℕ) (pages span : ℕ) → header ≡ replicate 8 0 ++ codes "KENH" ++ big_bytes 4 pages → mid ≡ written old 0 header → span ≡ 256 * pages - 16 → new ≡ written mid 16 (head_bytes span 0) → new ≡ written old 0 (first_bytes pages)
laid_out old mid new header pages span is first span_is last =
    let sixteen : 16 ≡ 0 + length header = ap (λ (ws : List ℕ). 0 + length ws) (sym is) in
    last
    ∙ ap (λ (ws : List ℕ). written ws 16 (head_bytes span 0)) first
    ∙ written-written old 0 16 header (head_bytes span 0) (omega arith) sixteen
    ∙ ap (λ (ws : List ℕ). written old 0 (ws ++ head_bytes span 0)) is
    ∙ ap (λ (k : ℕ). written old 0 (replicate 8 0 ++ codes "KENH" ++ big_bytes 4 pages ++ head_bytes k 0)) span_is

-- what then stands there
pub formatted : (old new : List ℕ) (pages : ℕ) → 1 ≤ pages → pages ≤ 4096 → length old ≡ 256 * pages → new ≡ written old 0 (first_bytes pages) → StandsFor new (empty_heap (length old))
formatted old new pages some most long is =
    let fits : 0 + 32 ≤ length old = omega arith in
    let kept : KeepsOutside 0 (0 + 32) old new = KeepsOutside-after old new (first_bytes pages) 0 32 refl fits is in
    let front : part 0 32 new ≡ first_bytes pages = part_after old new (first_bytes pages) 0 32 refl fits is in
    subst (λ (k : ℕ). StandsFor new (empty_heap k)) kept.long (stands_empty new pages some most (kept.long ∙ long) front)

-- over zeros it is the first heap
pub first-zeros : (old new : List ℕ) (count pages : ℕ) → length old ≡ 256 * count → new ≡ written old 0 (first_bytes count) → old ≡ replicate (256 * pages) 0 → new ≡ first_heap pages
first-zeros old new count pages long is zeros =
    let same : count ≡ pages = omega (arith, ap length zeros, length-replicate {A = ℕ} (256 * pages) 0) in
    is
    ∙ ap (λ (k : ℕ). written old 0 (first_bytes k)) same
    ∙ ap (λ (ws : List ℕ). written ws 0 (first_bytes pages)) zeros
    ∙ ap (λ (ws : List ℕ). first_bytes pages ++ ws) (drop-replicate 32 (256 * pages) 0)
