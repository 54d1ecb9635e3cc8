-- Pages of which the turn wrote none.
use Rattle.std.proofs.Common.{◌≡◌, ℕ, ◌+◌, List, [], length, map, replicate, Bool, true, false, None, refl, sym, ap, true≢false, ◌∙◌, arith}
use Rattle.std.specs.List.{concat}
use Rattle.ken_pages.specs.declared.page.Page.{Page}
use Rattle.ken_pages.specs.Paged.{Paged, own_count}
use Rattle.ken_pages.specs.Layout.{Lists, now_of, was_of, is_kept, now_bytes, own_pages, kept_pages, begun_at, paged_of}
use Rattle.ken_pages.proofs.Pages.{length_map}
use Rattle.ken_pages.proofs.Listed.{none_listed}
use Rattle.ken_pages.proofs.Counted.{none_own, none_was, own_count-none}

-- no turn is begun
pub not_begun : (b : Bool) (bytes : List ℕ) → begun_at b bytes ≡ None → b ≡ false
not_begun true bytes none = absurd cc
not_begun false bytes none = refl

-- what is put back of no page is what stood there
pub idle_same : (b : Bool) (old new : List Page) (s t : List (List ℕ)) → Lists [] (kept_pages old) → map now_of new ≡ map was_of old → own_pages new ≡ replicate (length old) false → length t ≡ length s + own_count (own_pages old) → b ≡ false → paged_of false new t ≡ paged_of b old s
idle_same true old new s t listed now own spare is = absurd (true≢false is)
idle_same false old new s t listed now own spare is =
    let kept : kept_pages old ≡ replicate (length old) false = none_listed (kept_pages old) listed ∙ ap (λ n. replicate n false) (length_map is_kept old) in
    let none : own_pages old ≡ replicate (length old) false = none_own old (length old) kept in
    let count : own_count (own_pages old) ≡ 0 = ap own_count none ∙ own_count-none (length old) in
    let frames : length t ≡ length s = omega (arith, spare, count) in
    let bytes : now_bytes new ≡ now_bytes old = ap concat (now ∙ none_was old (length old) kept) in
    ap (λ (bs : List ℕ). let p : Paged = record { bytes = bs; begun = None; spare = length t; own = own_pages new } in p) bytes
    ∙ ap (λ (n : ℕ). let p : Paged = record { bytes = now_bytes old; begun = None; spare = n; own = own_pages new } in p) frames
    ∙ ap (λ (o : List Bool). let p : Paged = record { bytes = now_bytes old; begun = None; spare = length s; own = o } in p) (own ∙ sym none)

-- the parts of what is seen, where no turn is begun
pub paged_is : (ps : List Page) (s : List (List ℕ)) (bytes : List ℕ) (n : ℕ) (own : List Bool) → now_bytes ps ≡ bytes → length s ≡ n → own_pages ps ≡ own → paged_of false ps s ≡ record { bytes = bytes; begun = None; spare = n; own = own }
paged_is ps s bytes n own b l o =
    ap (λ (bs : List ℕ). let p : Paged = record { bytes = bs; begun = None; spare = length s; own = own_pages ps } in p) b
    ∙ ap (λ (m : ℕ). let p : Paged = record { bytes = bytes; begun = None; spare = m; own = own_pages ps } in p) l
    ∙ ap (λ (os : List Bool). let p : Paged = record { bytes = bytes; begun = None; spare = n; own = os } in p) o
