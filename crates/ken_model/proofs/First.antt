-- A heap with no block.
use Rattle.std.proofs.Common.{◌≡◌, ℕ, ◌+◌, ◌-◌, ◌*◌, ◌/◌, ◌<◌, ◌≤◌, List, length, take, drop, replicate, refl, ap, ◌∙◌, subst, arith, length-append, take_at}
use Rattle.std.proofs.lemmas.List.{length-replicate}
use Rattle.byteorder.specs.Endian.{big_bytes}
use Rattle.ken_model.specs.Network.{empty_heap}
use Rattle.ken_model.specs.Layout.{part, head_bytes, first_bytes, first_heap, StandsFor}
use Rattle.ken_model.specs.LayoutLaws.{FirstIsEmpty}
use Rattle.ken_model.proofs.Heads.{part_of_part}

-- bytes that begin as the first heap does
pub stands_empty : (bytes : List ℕ) (pages : ℕ) → 1 ≤ pages → pages ≤ 4096 → length bytes ≡ 256 * pages → part 0 32 bytes ≡ first_bytes pages → StandsFor bytes (empty_heap (length bytes))
stands_empty bytes pages some most long front =
    let count : pages ≡ length bytes / 256 = omega arith in
    let span : 256 * pages - 16 ≡ length bytes - 16 = omega arith in
    record {
      size = refl;
      pages = (pages, omega arith, omega arith, long);
      small = omega arith;
      root = part_of_part bytes 0 32 0 8 (omega arith) ∙ ap (take 8) front;
      name = part_of_part bytes 0 32 8 4 (omega arith) ∙ ap (λ (ws : List ℕ). take 4 (drop 8 ws)) front;
      count = part_of_part bytes 0 32 12 4 (omega arith) ∙ ap (λ (ws : List ℕ). take 4 (drop 12 ws)) front ∙ ap (λ (k : ℕ). big_bytes 4 k) count;
      cells = (
        omega arith,
        omega arith,
        λ (gap : 16 < length bytes). part_of_part bytes 0 32 16 16 (omega arith) ∙ ap (λ (ws : List ℕ). take 16 (drop 16 ws)) front ∙ ap (λ (k : ℕ). head_bytes k 0) span,
      );
    }

pub first_is_empty : FirstIsEmpty
first_is_empty pages some most =
    let zeros : List ℕ = replicate (256 * pages - 32) 0 in
    let long : length (first_heap pages) ≡ 256 * pages = length-append (first_bytes pages) (replicate (256 * pages - 32) 0) ∙ ap (λ (k : ℕ). 32 + k) (length-replicate {A = ℕ} (256 * pages - 32) 0) ∙ (let e : 32 + (256 * pages - 32) ≡ 256 * pages = omega arith in e) in
    subst (λ (k : ℕ). StandsFor (first_heap pages) (empty_heap k)) long (stands_empty (first_heap pages) pages (omega arith) (omega arith) long (take_at (first_bytes pages) (replicate (256 * pages - 32) 0) 32 refl))
