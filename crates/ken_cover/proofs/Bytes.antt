-- Bytes of a heap or an image, page by page.
use Rattle.std.proofs.Common.{◌≡◌, ℕ, ◌+◌, ◌-◌, ◌*◌, ◌<◌, ◌≤◌, suc, zero, List, ◌++◌, length, take, drop, sym, ap, ◌∙◌, ⊎_elim, arith, length-append, length-take, length-drop, append_assoc}
use Rattle.std.proofs.lemmas.List.{take-append-le, drop-append-le, take_at, drop_at, take-append-drop, drop-drop, drop-take, take-take, nil_from_length}
use Rattle.std.proofs.lemmas.Bool.{cases_lt}
use Rattle.std.proofs.Math.Seq.{drop-append-add}
use Rattle.ken_disk.proofs.Overwrites.{length-overwrite}
use Rattle.ken_pages.specs.Paged.{page_of}
use Rattle.ken_record.specs.declared.page.Page.{Page}
use Rattle.ken_cover.specs.Overlay.{with_page, IsWithin}

-- a page past the first, as a page of the rest
page_of-drop : (x : List ℕ) (p : ℕ) → page_of (drop 256 x) p ≡ page_of x (suc p)
page_of-drop x p =
    let there : 256 + 256 * p ≡ 256 * suc p = omega arith in
    ap (take 256) (drop-drop (256 * p) 256 x ∙ ap (λ k. drop k x) there)

-- lists of whole pages that are the same page by page
pub same_pages : (n : ℕ) (a b : List ℕ) → length a ≡ 256 * n → length b ≡ 256 * n → ((p : ℕ) → p < n → page_of a p ≡ page_of b p) → a ≡ b
same_pages zero a b la lb same = nil_from_length a (omega arith) ∙ sym (nil_from_length b (omega arith))
same_pages (suc n) a b la lb same =
    let first : take 256 a ≡ take 256 b = same 0 (omega arith) in
    let rest : drop 256 a ≡ drop 256 b = same_pages n (drop 256 a) (drop 256 b) (omega (arith, length-drop 256 a)) (omega (arith, length-drop 256 b)) (λ p lt. page_of-drop a p ∙ same (suc p) (omega arith) ∙ sym (page_of-drop b p)) in
    sym (take-append-drop 256 a) ∙ ap (λ x. x ++ drop 256 a) first ∙ ap (λ y. take 256 b ++ y) rest ∙ take-append-drop 256 b

module _ (n : ℕ) (bytes : List ℕ) (e : Page) (size : length bytes ≡ 256 * n) (inside : IsWithin n e) where
  pub length-with_page : length (with_page bytes e) ≡ length bytes
  length-with_page =
      let within : 256 * e.page ≤ length bytes = omega (arith, inside.0) in
      omega (arith, inside.0, inside.1, length-overwrite (256 * e.page) e.bytes bytes within)

  -- the bytes before the page are as long as its place
  front : length (take (256 * e.page) bytes) ≡ 256 * e.page
  front = omega (arith, inside.0, length-take (256 * e.page) bytes)

  pub page_of-with_page_same : page_of (with_page bytes e) e.page ≡ e.bytes
  page_of-with_page_same =
      ap (take 256) (drop_at (take (256 * e.page) bytes) (e.bytes ++ drop (256 * e.page + length e.bytes) bytes) (256 * e.page) front)
      ∙ take_at e.bytes (drop (256 * e.page + length e.bytes) bytes) 256 inside.1

  -- a page before it
  before : (p : ℕ) → p < e.page → page_of (with_page bytes e) p ≡ page_of bytes p
  before p lt =
      let start : 256 * p ≤ length (take (256 * e.page) bytes) = omega (arith, front) in
      let gap : 256 * e.page ≡ 256 * p + (256 * e.page - 256 * p) = omega arith in
      let whole : 256 ≤ length (drop (256 * p) (take (256 * e.page) bytes)) = omega (arith, front, length-drop (256 * p) (take (256 * e.page) bytes)) in
      let most : 256 ≤ 256 * e.page - 256 * p = omega arith in
      ap (take 256) (drop-append-le (256 * p) (take (256 * e.page) bytes) (e.bytes ++ drop (256 * e.page + length e.bytes) bytes) start)
      ∙ take-append-le 256 (drop (256 * p) (take (256 * e.page) bytes)) (e.bytes ++ drop (256 * e.page + length e.bytes) bytes) whole
      ∙ ap (λ k. take 256 (drop (256 * p) (take k bytes))) gap
      ∙ ap (take 256) (drop-take (256 * p) (256 * e.page - 256 * p) bytes)
      ∙ take-take 256 (256 * e.page - 256 * p) (drop (256 * p) bytes) most

  -- a page behind it
  behind : (p : ℕ) → e.page < p → page_of (with_page bytes e) p ≡ page_of bytes p
  behind p lt =
      let rest = drop (256 * e.page + length e.bytes) bytes in
      let past : 256 * p ≡ length (take (256 * e.page) bytes ++ e.bytes) + (256 * p - 256 * e.page - 256) = omega (arith, front, inside.1, length-append (take (256 * e.page) bytes) e.bytes) in
      let joined : with_page bytes e ≡ (take (256 * e.page) bytes ++ e.bytes) ++ rest = sym (append_assoc (take (256 * e.page) bytes) e.bytes rest) in
      let there : (256 * e.page + length e.bytes) + (256 * p - 256 * e.page - 256) ≡ 256 * p = omega (arith, inside.1) in
      ap (λ x. take 256 (drop (256 * p) x)) joined
      ∙ ap (λ k. take 256 (drop k ((take (256 * e.page) bytes ++ e.bytes) ++ rest))) past
      ∙ ap (take 256) (drop-append-add (take (256 * e.page) bytes ++ e.bytes) rest (256 * p - 256 * e.page - 256))
      ∙ ap (take 256) (drop-drop (256 * p - 256 * e.page - 256) (256 * e.page + length e.bytes) bytes)
      ∙ ap (λ k. take 256 (drop k bytes)) there

  pub page_of-with_page_other : (p : ℕ) → (e.page ≡ p → ⊥) → page_of (with_page bytes e) p ≡ page_of bytes p
  page_of-with_page_other p ne = ⊎_elim (before p) (λ le. behind p (omega arith)) (cases_lt p e.page)
