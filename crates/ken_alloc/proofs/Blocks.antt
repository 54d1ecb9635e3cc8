-- The block at a place: where its bytes are, and what writing over them does.
use Rattle.std.proofs.Common.{◌≡◌, ℕ, ◌+◌, ◌-◌, ◌≤◌, Bool, true, false, cond, ltb, eqb, List, [], ◌∷◌, length, Option, Some, None, IsSome, is_some, ◌⊎◌, inl, inr, refl, sym, ap, ◌∙◌, subst, arith}
use Rattle.std.specs.Prelude.{option_map}
use Rattle.std.proofs.lemmas.Bool.Decides.{eqb_tells}
use Rattle.ken_frame.specs.Written.{written}
use Rattle.ken_frame.proofs.Written.{length-written}
use Rattle.ken_model.specs.declared.values.Block.{Block}
use Rattle.ken_model.specs.Heap.{rounded, end_of, block_at, place_past, first_gap_from}
use Rattle.ken_alloc.specs.declared.walk.Gap.{Gap}
use Rattle.ken_alloc.specs.declared.walk.Found.{Found}
use Rattle.ken_model.specs.Layout.{part, HasHead, IsLaid, AreCells}
use Rattle.ken_alloc.specs.Objects.{rewritten}
use Rattle.ken_alloc.specs.Kept.{KeepsOutside}
use Rattle.ken_alloc.specs.Walk.{start_of, first_of, fit_from, hole_from}
use Rattle.ken_alloc.proofs.Kept.{KeepsOutside-written, part-written_within}
use Rattle.ken_model.proofs.Choices.{lt_cases, at_true, at_false, is_true, is_false}
use Rattle.ken_model.proofs.Walked.{AreCells-le}
use Rattle.ken_alloc.proofs.Cells.{HasHead-below, AreCells-above, IsGap-below, IsLaid-below}

-- a block that stands among cells, and the cells after it
pub record StandsAt (xs : List ℕ) (size from place : ℕ) (bs : List Block) : Type 0 where
  pub bytes : List ℕ
  pub found : block_at place bs ≡ Some bytes
  pub past : from + 16 ≤ place
  pub laid : IsLaid xs (record { place = place; bytes = bytes })
  pub rest : List Block
  pub after : AreCells xs (place + rounded (length bytes)) size rest
  pub next : place_past place bs ≡ place_past place rest

block_step : (place : ℕ) (b : Block) (bs : List Block) → ((b.place ≡ place) × (block_at place (b ∷ bs) ≡ Some b.bytes) × (eqb b.place place ≡ true)) ⊎ ((eqb b.place place ≡ false) × (block_at place (b ∷ bs) ≡ block_at place bs))
block_step place b bs = elim (eqb_tells b.place place) [
  | inl t ↦ inl (t.1, is_true (eqb b.place place) _ _ t.0, t.0)
  | inr f ↦ inr (f.0, is_false (eqb b.place place) _ _ f.0)
]

-- no block that ended before is past a place
pub past_step : (place : ℕ) (b : Block) (bs : List Block) → b.place ≤ place → place_past place (b ∷ bs) ≡ place_past place bs
past_step place b bs le = elim (lt_cases place b.place) [
  | inl t ↦ absurd (omega (arith, t.1))
  | inr f ↦ is_false (ltb place b.place) _ _ f.0
]

pub stands_at : (xs : List ℕ) (size place from : ℕ) (bs : List Block) → AreCells xs from size bs → IsSome (block_at place bs) → StandsAt xs size from place bs
stands_at xs size place from [] cells some = absurd cc
stands_at xs size place from (b ∷ bs) cells some = elim (block_step place b bs) [
  | inl here ↦ record {
    bytes = b.bytes;
    found = here.1;
    past = omega (arith, here.0, cells.0);
    laid = subst (λ (p : ℕ). IsLaid xs (record { place = p; bytes = b.bytes })) here.0 cells.2;
    rest = bs;
    after = subst (λ (p : ℕ). AreCells xs (p + rounded (length b.bytes)) size bs) here.0 cells.3;
    next = past_step place b bs (omega (arith, here.0));
  }
  | inr on ↦
      let rest : StandsAt xs size (end_of b) place bs = stands_at xs size place (end_of b) bs cells.3 (subst (λ (o : Option (List ℕ)). IsSome o) on.1 some) in
      record {
        bytes = rest.bytes;
        found = on.1 ∙ rest.found;
        past = omega (arith, rest.past, cells.0);
        laid = rest.laid;
        rest = rest.rest;
        after = rest.after;
        next = past_step place b bs (omega (arith, rest.past)) ∙ rest.next;
      }
]

-- the place of the first block of cells past a place
pub next_place : (xs : List ℕ) (size place from : ℕ) (bs : List Block) → place ≤ from → AreCells xs from size bs → place_past place bs ≡ option_map (λ (f : Found). f.place) (first_of bs)
next_place xs size place from [] le cells = refl
next_place xs size place from (b ∷ bs) le cells = elim (lt_cases place b.place) [
  | inl t ↦ is_true (ltb place b.place) _ _ t.0
  | inr f ↦ absurd (omega (arith, f.1, cells.0))
]

-- a hole is left exactly where a block stands
pub is_some-hole : (size place from : ℕ) (bs : List Block) → is_some (hole_from from size place bs) ≡ is_some (block_at place bs)
is_some-hole size place from [] = refl
is_some-hole size place from (b ∷ bs) = go (eqb b.place place) (is_some-hole size place (end_of b) bs)
  where
    go : (t : Bool) → is_some (hole_from (end_of b) size place bs) ≡ is_some (block_at place bs) → is_some (cond t (Some (record { from = from; to = start_of size bs })) (hole_from (end_of b) size place bs)) ≡ is_some (cond t (Some b.bytes) (block_at place bs))
    go true rest = refl
    go false rest = rest

-- the place of the first gap that fits
pub place_of_fit : (size n from : ℕ) (bs : List Block) → option_map (λ (g : Gap). g.from + 16) (fit_from from size bs n) ≡ first_gap_from from size bs n
place_of_fit size n from [] = go (ltb size (from + 16 + rounded n))
  where
    go : (t : Bool) → option_map (λ (g : Gap). g.from + 16) (cond t None (Some (record { from = from; to = size }))) ≡ cond t None (Some (from + 16))
    go true = refl
    go false = refl
place_of_fit size n from (b ∷ bs) = go (ltb b.place (from + 32 + rounded n)) (place_of_fit size n (end_of b) bs)
  where
    go : (t : Bool) → option_map (λ (g : Gap). g.from + 16) (fit_from (end_of b) size bs n) ≡ first_gap_from (end_of b) size bs n → option_map (λ (g : Gap). g.from + 16) (cond t (fit_from (end_of b) size bs n) (Some (record { from = from; to = b.place - 16 }))) ≡ cond t (first_gap_from (end_of b) size bs n) (Some (from + 16))
    go true rest = rest
    go false rest = refl

-- bytes written over those of a block
module _ (xs zs : List ℕ) (size place at : ℕ) (whole : length xs ≡ size) where
  pub AreCells-rewritten : (from : ℕ) (bs : List Block) (ys : List ℕ) → AreCells xs from size bs → block_at place bs ≡ Some ys → at + length zs ≤ length ys → AreCells (written xs (place + at) zs) from size (rewritten place at zs bs)
  AreCells-rewritten from [] ys cells found fits = absurd cc
  AreCells-rewritten from (b ∷ bs) ys cells found fits = elim (block_step place b bs) [
    | inl here ↦
        let is : ys ≡ b.bytes = (let e : Some b.bytes ≡ Some ys = sym here.1 ∙ found in cc) in
        let fits_b : at + length zs ≤ length b.bytes = omega (arith, ap length is) in
        let le : end_of b ≤ size = AreCells-le xs (end_of b) size bs cells.3 in
        let kept : KeepsOutside (place + at) (place + at + length zs) xs (written xs (place + at) zs) = KeepsOutside-written xs zs (place + at) (omega (arith, here.0)) in
        let long : length (written b.bytes at zs) ≡ length b.bytes = length-written b.bytes at zs fits_b in
        at_true (λ (l : List Block). AreCells (written xs (place + at) zs) from size l) (eqb b.place place) (record { place = b.place; bytes = written b.bytes at zs } ∷ bs) (b ∷ rewritten place at zs bs) here.2 (
          cells.0,
          IsGap-below (place + at) (place + at + length zs) xs (written xs (place + at) zs) kept from (b.place - 16) (omega (arith, here.0, cells.0)) cells.1,
          (
            omega (arith, long, cells.2.0),
            cells.2.1,
            subst (λ (n : ℕ). HasHead (written xs (place + at) zs) (b.place - 16) (16 + rounded n) n) (sym long) (HasHead-below (place + at) (place + at + length zs) (b.place - 16) (16 + rounded (length b.bytes)) (length b.bytes) xs (written xs (place + at) zs) kept (omega (arith, here.0, cells.0)) cells.2.2),
            subst (λ (n : ℕ). part b.place n (written xs (place + at) zs) ≡ written b.bytes at zs) (sym long) (part-written_within xs zs b.place (length b.bytes) at (place + at) (omega (arith, here.0)) fits_b (omega arith) ∙ ap (λ (ws : List ℕ). written ws at zs) cells.2.3),
          ),
          subst (λ (n : ℕ). AreCells (written xs (place + at) zs) (b.place + rounded n) size bs) (sym long) (AreCells-above (place + at) (place + at + length zs) xs (written xs (place + at) zs) kept (end_of b) size bs (omega (arith, here.0)) cells.3),
        )
    | inr on ↦
        let found_on : block_at place bs ≡ Some ys = sym on.1 ∙ found in
        let there : StandsAt xs size (end_of b) place bs = stands_at xs size place (end_of b) bs cells.3 (subst (λ (o : Option (List ℕ)). IsSome o) (sym found_on) refl) in
        let is : there.bytes ≡ ys = (let e : Some there.bytes ≡ Some ys = sym there.found ∙ found_on in cc) in
        let le : place + rounded (length there.bytes) ≤ size = AreCells-le xs (place + rounded (length there.bytes)) size there.rest there.after in
        let kept : KeepsOutside (place + at) (place + at + length zs) xs (written xs (place + at) zs) = KeepsOutside-written xs zs (place + at) (omega (arith, ap length is)) in
        at_false (λ (l : List Block). AreCells (written xs (place + at) zs) from size l) (eqb b.place place) (record { place = b.place; bytes = written b.bytes at zs } ∷ bs) (b ∷ rewritten place at zs bs) on.0 (
          cells.0,
          IsGap-below (place + at) (place + at + length zs) xs (written xs (place + at) zs) kept from (b.place - 16) (omega (arith, there.past, cells.0)) cells.1,
          IsLaid-below (place + at) (place + at + length zs) xs (written xs (place + at) zs) kept b (omega (arith, cells.0)) (omega (arith, there.past)) cells.2,
          AreCells-rewritten (end_of b) bs ys cells.3 found_on fits,
        )
  ]
