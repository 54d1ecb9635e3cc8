-- Bytes stand for one value alone.
use Rattle.std.proofs.Common.{◌≡◌, ℕ, zero, suc, ◌+◌, ◌-◌, ◌*◌, ◌/◌, ◌%◌, ◌^◌, ◌<◌, ◌≤◌, ltb, eqb, List, [], ◌∷◌, length, drop, take, inl, inr, refl, sym, ap, ◌∙◌, subst, arith}
use Rattle.std.proofs.lemmas.Bool.Decides.{eqb_tells}
use Rattle.std.proofs.lemmas.Bool.{cases_lt}
use Rattle.std.proofs.lemmas.List.{append-nil}
use Rattle.byteorder.specs.Endian.{big_number, big_bytes}
use Rattle.byteorder.specs.Numbers.{big_number-reads_back, big_from-take}
use Rattle.ken_model.specs.declared.facts.TheConstants.{PAGE, MAX_PAGES}
use Rattle.ken_model.specs.declared.values.Block.{Block}
use Rattle.ken_model.specs.declared.values.Value.{Value}
use Rattle.ken_model.specs.Heap.{rounded, end_of}
use Rattle.ken_model.specs.Layout.{part, HasHead, IsGap, IsLaid, AreCells, StandsFor}
use Rattle.ken_model.specs.Reading.{blocks_from, value_of}
use Rattle.ken_model.proofs.Heads.{IsRead, IsRead-from_head}
use Rattle.ken_model.proofs.Choices.{lt_cases, is_true, is_false}
use Rattle.ken_model.proofs.Walked.{AreCells-le}

module _ (xs : List ℕ) (small : length xs < 2 ^ 32) where
  -- one cell of a walk by spans
  ends : (n at : ℕ) → length xs < at + 16 → blocks_from n xs at ≡ []
  ends zero at past = refl
  ends (suc n) at past = elim (lt_cases (length xs) (at + 16)) [
    | inl t ↦ is_true (ltb (length xs) (at + 16)) _ _ t.0
    | inr f ↦ absurd (omega (arith, f.1))
  ]

  over_gap : (n at span : ℕ) → span < 2 ^ 32 → HasHead xs at span 0 → blocks_from (suc n) xs at ≡ blocks_from n xs (at + span)
  over_gap n at span fits head =
      let read : IsRead xs at span 0 = IsRead-from_head xs at span 0 fits (omega arith) head in
      elim (lt_cases (length xs) (at + 16)) [
        | inl t ↦ absurd (omega (arith, t.1, read.within))
        | inr f ↦ elim (eqb_tells (big_number 4 (drop (at + 4) xs)) 0) [
          | inl t ↦
              is_false (ltb (length xs) (at + 16)) _ _ f.0 ∙ is_true (eqb (big_number 4 (drop (at + 4) xs)) 0) _ _ t.0 ∙ ap (λ (k : ℕ). blocks_from n xs (at + k)) read.span_is
          | inr g ↦ absurd (g.1 read.len_is)
        ]
      ]

  over_block : (n : ℕ) (b : Block) (at : ℕ) → at + 16 ≡ b.place → end_of b ≤ length xs → IsLaid xs b → blocks_from (suc n) xs at ≡ b ∷ blocks_from n xs (end_of b)
  over_block n b at is le laid =
      let start : b.place - 16 ≡ at = omega arith in
      let head : HasHead xs at (16 + rounded (length b.bytes)) (length b.bytes) = subst (λ (k : ℕ). HasHead xs k (16 + rounded (length b.bytes)) (length b.bytes)) start laid.2 in
      let read : IsRead xs at (16 + rounded (length b.bytes)) (length b.bytes) = IsRead-from_head xs at (16 + rounded (length b.bytes)) (length b.bytes) (omega arith) (omega arith) head in
      let end : at + (16 + rounded (length b.bytes)) ≡ end_of b = omega arith in
      let bytes : part (at + 16) (length b.bytes) xs ≡ b.bytes = ap (λ (p : ℕ). part p (length b.bytes) xs) is ∙ laid.3 in
      elim (lt_cases (length xs) (at + 16)) [
        | inl t ↦ absurd (omega (arith, t.1, read.within))
        | inr f ↦ elim (eqb_tells (big_number 4 (drop (at + 4) xs)) 0) [
          | inl t ↦ absurd (omega (arith, t.1, read.len_is, laid.0))
          | inr g ↦
              is_false (ltb (length xs) (at + 16)) _ _ f.0 ∙ is_false (eqb (big_number 4 (drop (at + 4) xs)) 0) _ _ g.0
              ∙ ap (λ (k : ℕ). record { place = at + 16; bytes = part (at + 16) k xs } ∷ blocks_from n xs (at + big_number 4 (drop at xs))) read.len_is
              ∙ ap (λ (k : ℕ). record { place = at + 16; bytes = part (at + 16) (length b.bytes) xs } ∷ blocks_from n xs (at + k)) read.span_is
              ∙ ap (λ (k : ℕ). record { place = at + 16; bytes = part (at + 16) (length b.bytes) xs } ∷ blocks_from n xs k) end
              ∙ ap (λ (ws : List ℕ). record { place = at + 16; bytes = ws } ∷ blocks_from n xs (end_of b)) bytes
              ∙ ap (λ (p : ℕ). record { place = p; bytes = b.bytes } ∷ blocks_from n xs (end_of b)) is
        ]
      ]

  -- over the gap that may be there
  over_some : (n from to : ℕ) → from % 16 ≡ 0 → to % 16 ≡ 0 → from < to → to ≤ length xs → length xs ≤ from + 16 * n → HasHead xs from (to - from) 0 → (m : ℕ) × (blocks_from n xs from ≡ blocks_from m xs to) × (length xs ≤ to + 16 * m)
  over_some zero from to even even_to some within enough head = absurd (omega arith)
  over_some (suc m) from to even even_to some within enough head =
      let end : from + (to - from) ≡ to = omega arith in
      (m, over_gap m from (to - from) (omega arith) head ∙ ap (λ (k : ℕ). blocks_from m xs k) end, omega arith)

  over_room : (n from to : ℕ) → from % 16 ≡ 0 → to % 16 ≡ 0 → to ≤ length xs → length xs ≤ from + 16 * n → IsGap xs from to → (m : ℕ) × (blocks_from n xs from ≡ blocks_from m xs to) × (length xs ≤ to + 16 * m)
  over_room n from to even even_to within enough gap = elim (cases_lt from to) [
    | inl some ↦ over_some n from to even even_to some within enough (gap.2 some)
    | inr none ↦ let is : from ≡ to = omega (arith, gap.0) in (n, ap (λ (k : ℕ). blocks_from n xs k) is, omega arith)
  ]

  over_first : (m : ℕ) (b : Block) (bs : List Block) → length xs ≤ b.place - 16 + 16 * m → 16 ≤ b.place → end_of b ≤ length xs → IsLaid xs b → ((k : ℕ) → length xs ≤ end_of b + 16 * k → blocks_from k xs (end_of b) ≡ bs) → blocks_from m xs (b.place - 16) ≡ b ∷ bs
  over_first zero b bs more place le laid rest = absurd (omega (arith, laid.0))
  over_first (suc m) b bs more place le laid rest =
      over_block m b (b.place - 16) (omega arith) le laid ∙ ap (λ (l : List Block). b ∷ l) (rest m (omega arith))

  pub blocks_from-cells : (n from : ℕ) (bs : List Block) → from % 16 ≡ 0 → length xs % 16 ≡ 0 → length xs ≤ from + 16 * n → AreCells xs from (length xs) bs → blocks_from n xs from ≡ bs
  blocks_from-cells n from [] even whole enough cells =
      let r = over_room n from (length xs) even whole (omega arith) enough cells in
      r.1 ∙ ends r.0 (length xs) (omega arith)
  blocks_from-cells n from (b ∷ bs) even whole enough cells =
      let le : end_of b ≤ length xs = AreCells-le xs (end_of b) (length xs) bs cells.3 in
      let r = over_room n from (b.place - 16) even (omega (arith, cells.2.1, cells.0)) (omega arith) enough cells.1 in
      r.1 ∙ over_first r.0 b bs r.2 (omega (arith, cells.0)) le cells.2 (λ k more. blocks_from-cells k (end_of b) bs (omega (arith, cells.2.1)) whole more cells.3)

-- a heap's size
pub record IsSized (bytes : List ℕ) : Type 0 where
  pub some : 256 ≤ length bytes
  pub whole : length bytes % 256 ≡ 0
  pub small : length bytes ≤ 256 * 4096

pub IsSized-from_pages : (bytes : List ℕ) → (n : ℕ) × (0 < n) × (n ≤ MAX_PAGES) × (length bytes ≡ PAGE * n) → IsSized bytes
IsSized-from_pages bytes p = record { some = omega (arith, p.1, p.3); whole = omega (arith, p.3); small = omega (arith, p.2, p.3) }

pub IsSized-from_stands : (bytes : List ℕ) (v : Value) → StandsFor bytes v → IsSized bytes
IsSized-from_stands bytes v stands =
    let p = stands.pages in
    IsSized-from_pages bytes (p.0, p.1, p.2, stands.size ∙ p.3)

-- the number that the first bytes are
root_is : (bytes : List ℕ) (x : ℕ) → x < 2 ^ 64 → take 8 bytes ≡ big_bytes 8 x → big_number 8 bytes ≡ x
root_is bytes x small is =
    let fits : x < 256 ^ 8 = omega arith in
    sym (big_from-take 0 8 8 bytes (omega arith)) ∙ ap (λ (ws : List ℕ). big_number 8 ws) is ∙ ap (λ (ws : List ℕ). big_number 8 ws) (sym (append-nil (big_bytes 8 x))) ∙ big_number-reads_back 8 x [] fits

pub value_of-unique : (bytes : List ℕ) (v : Value) → StandsFor bytes v → value_of bytes ≡ v
unfolding value_of
value_of-unique bytes v stands =
    let sized : IsSized bytes = IsSized-from_stands bytes v stands in
    let root : big_number 8 bytes ≡ v.root = root_is bytes v.root stands.small stands.root in
    let cells : AreCells bytes 16 (length bytes) v.blocks = subst (λ (k : ℕ). AreCells bytes 16 k v.blocks) (sym stands.size) stands.cells in
    let blocks : blocks_from (length bytes / 16) bytes 16 ≡ v.blocks = blocks_from-cells bytes (omega arith) (length bytes / 16) 16 v.blocks (omega arith) (omega arith) (omega arith) cells in
    ap (λ (s : ℕ). let r : Value = record { size = s; root = big_number 8 bytes; blocks = blocks_from (length bytes / 16) bytes 16 } in r) stands.size
    ∙ ap (λ (x : ℕ). let r : Value = record { size = v.size; root = x; blocks = blocks_from (length bytes / 16) bytes 16 } in r) root
    ∙ ap (λ (l : List Block). let r : Value = record { size = v.size; root = v.root; blocks = l } in r) blocks

-- so the value that is held changes as the bytes do
pub StandsFor-value : (bytes : List ℕ) (v : Value) → StandsFor bytes v → StandsFor bytes (value_of bytes)
StandsFor-value bytes v stands = subst (λ (w : Value). StandsFor bytes w) (sym (value_of-unique bytes v stands)) stands
