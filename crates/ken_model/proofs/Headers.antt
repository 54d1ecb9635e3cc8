-- The bytes before the cells, compared.
use Rattle.std.proofs.Common.{◌≡◌, ℕ, ◌-◌, ◌*◌, ◌/◌, Bool, true, false, not, List, length, take, drop, codes, refl, sym, ap, ◌∙◌, arith}
use Rattle.std.specs.Str.{bytes_eq}
use Rattle.std.proofs.lemmas.Slice.Eq.{bytes_eq-Decides}
use Rattle.byteorder.specs.Endian.{big_bytes}
use Rattle.ken_model.specs.Layout.{part}
use Rattle.ken_model.specs.Broken.{BreaksAt}
use Rattle.ken_model.specs.Broken.BreaksAt.{name as breaks_at_name, pages as breaks_at_pages}
use Rattle.ken_model.specs.Checks.{IsWrongHeader}
use Rattle.ken_model.specs.Checks.IsWrongHeader.{name as wrong_at_name, pages as wrong_at_pages}
use Rattle.ken_model.proofs.Heads.{part_of_part}

-- what a test by `!=` said
pub differ : (xs ys : List ℕ) (r : Bool) → r ≡ not (bytes_eq xs ys) → r ≡ true → xs ≡ ys → ⊥
differ xs ys r is is_so same =
    let e : bytes_eq xs ys ≡ true = (bytes_eq-Decides xs ys).1 same in
    let not_so : r ≡ false = is ∙ ap not e in
    absurd cc

pub same : (xs ys : List ℕ) (r : Bool) → r ≡ not (bytes_eq xs ys) → r ≡ false → xs ≡ ys
same xs ys r is not_so = go (bytes_eq xs ys) refl
  where
    go : (b : Bool) → bytes_eq xs ys ≡ b → xs ≡ ys
    go true e = (bytes_eq-Decides xs ys).0 e
    go false e = let is_so : r ≡ true = is ∙ ap not e in absurd cc

pub wrong_name : (bytes name : List ℕ) (pages : ℕ) (r : Bool) → r ≡ not (bytes_eq (take 4 (drop 8 bytes)) name) → r ≡ true → name ≡ codes "KENH" → IsWrongHeader bytes pages 8
wrong_name bytes name pages r is is_so name_is =
    wrong_at_name (λ e. differ (take 4 (drop 8 bytes)) name r is is_so (e ∙ sym name_is))

pub wrong_pages : (bytes name count : List ℕ) (pages : ℕ) (r q : Bool) → length bytes ≡ 16 → r ≡ not (bytes_eq (take 4 (drop 8 bytes)) name) → r ≡ false → name ≡ codes "KENH" → q ≡ not (bytes_eq (take (length bytes - 12) (drop 12 bytes)) count) → q ≡ true → count ≡ big_bytes 4 pages → IsWrongHeader bytes pages 12
wrong_pages bytes name count pages r q long is not_so name_is is' is_so count_is =
    let n : 4 ≡ length bytes - 12 = omega arith in
    wrong_at_pages (same (take 4 (drop 8 bytes)) name r is not_so ∙ name_is) (λ e. differ (take (length bytes - 12) (drop 12 bytes)) count q is' is_so (ap (λ (k : ℕ). take k (drop 12 bytes)) (sym n) ∙ e ∙ sym count_is))

-- the first 16 bytes of a heap of so many pages
module _ (xs buf : List ℕ) (count : ℕ) (long : length xs ≡ 256 * count) (is : buf ≡ take 16 xs) where
  name_part : part 8 4 xs ≡ part 8 4 buf
  name_part = part_of_part xs 0 16 8 4 (omega arith) ∙ ap (λ (ws : List ℕ). part 8 4 ws) (sym is)

  pages_part : part 12 4 xs ≡ part 12 4 buf
  pages_part = part_of_part xs 0 16 12 4 (omega arith) ∙ ap (λ (ws : List ℕ). part 12 4 ws) (sym is)

  count_is : count ≡ length xs / 256
  count_is = omega arith

  pub wrong_breaks : (place : ℕ) → IsWrongHeader buf count place → BreaksAt xs place
  wrong_breaks _ (wrong_at_name h) = breaks_at_name (λ e. h (sym name_part ∙ e))
  wrong_breaks _ (wrong_at_pages name h) = breaks_at_pages (name_part ∙ name) (λ e. h (sym pages_part ∙ e ∙ ap (λ (k : ℕ). big_bytes 4 k) (sym count_is)))
