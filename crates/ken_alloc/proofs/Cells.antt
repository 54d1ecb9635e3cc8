-- Cells one after the other, where some bytes change.
use Rattle.std.proofs.Common.{◌≡◌, ℕ, ◌+◌, ◌-◌, ◌%◌, ◌<◌, ◌≤◌, true, false, ltb, eqb, List, [], ◌∷◌, length, Some, None, ◌⊎◌, inl, inr, sym, ap, ◌∙◌, subst, arith}
use Rattle.std.proofs.lemmas.Bool.Decides.{eqb_tells}
use Rattle.ken_model.specs.declared.values.Block.{Block}
use Rattle.ken_model.specs.Heap.{rounded, end_of, with_block, without_block}
use Rattle.ken_alloc.specs.declared.walk.Gap.{Gap}
use Rattle.ken_model.specs.Layout.{HasHead, IsGap, IsLaid, AreCells}
use Rattle.ken_alloc.specs.Kept.{KeepsOutside}
use Rattle.ken_alloc.specs.Walk.{start_of, fit_from, hole_from}
use Rattle.ken_model.proofs.Choices.{lt_cases, at_true, at_false, is_true, is_false}
use Rattle.ken_model.proofs.Walked.{AreCells-le, IsGap-none}

-- a head that is not written over
pub HasHead-below : (lo hi at span len : ℕ) (xs ys : List ℕ) → KeepsOutside lo hi xs ys → at + 16 ≤ lo → HasHead xs at span len → HasHead ys at span len
HasHead-below lo hi at span len xs ys kept le head = kept.below at 16 le ∙ head

pub HasHead-above : (lo hi at span len : ℕ) (xs ys : List ℕ) → KeepsOutside lo hi xs ys → hi ≤ at → HasHead xs at span len → HasHead ys at span len
HasHead-above lo hi at span len xs ys kept le head = kept.above at 16 le ∙ head

module _ (lo hi : ℕ) (xs ys : List ℕ) (kept : KeepsOutside lo hi xs ys) where
  pub IsGap-below : (from to : ℕ) → from + 16 ≤ lo → IsGap xs from to → IsGap ys from to
  IsGap-below from to le gap = (gap.0, gap.1, λ some. HasHead-below lo hi from (to - from) 0 xs ys kept le (gap.2 some))

  pub IsGap-above : (from to : ℕ) → hi ≤ from → IsGap xs from to → IsGap ys from to
  IsGap-above from to le gap = (gap.0, gap.1, λ some. HasHead-above lo hi from (to - from) 0 xs ys kept le (gap.2 some))

  pub IsLaid-below : (b : Block) → 16 ≤ b.place → end_of b ≤ lo → IsLaid xs b → IsLaid ys b
  IsLaid-below b place le laid =
      (laid.0, laid.1, HasHead-below lo hi (b.place - 16) (16 + rounded (length b.bytes)) (length b.bytes) xs ys kept (omega arith) laid.2, kept.below b.place (length b.bytes) (omega arith) ∙ laid.3)

  pub IsLaid-above : (b : Block) → hi + 16 ≤ b.place → IsLaid xs b → IsLaid ys b
  IsLaid-above b le laid =
      (laid.0, laid.1, HasHead-above lo hi (b.place - 16) (16 + rounded (length b.bytes)) (length b.bytes) xs ys kept (omega arith) laid.2, kept.above b.place (length b.bytes) (omega arith) ∙ laid.3)

  -- cells past the bytes that change
  pub AreCells-above : (from to : ℕ) (bs : List Block) → hi ≤ from → AreCells xs from to bs → AreCells ys from to bs
  AreCells-above from to [] le cells = IsGap-above from to le cells
  AreCells-above from to (b ∷ bs) le cells =
      (cells.0, IsGap-above from (b.place - 16) le cells.1, IsLaid-above b (omega (arith, cells.0)) cells.2, AreCells-above (end_of b) to bs (omega (arith, cells.0)) cells.3)

-- the first gap that fits, one block on
pub fit_step : (size n from : ℕ) (gap : Gap) (b : Block) (bs : List Block) → fit_from from size (b ∷ bs) n ≡ Some gap → ((b.place < from + 32 + rounded n) × (fit_from (end_of b) size bs n ≡ Some gap)) ⊎ ((from + 32 + rounded n ≤ b.place) × (gap.from ≡ from) × (gap.to ≡ b.place - 16))
fit_step size n from gap b bs h = elim (lt_cases b.place (from + 32 + rounded n)) [
  | inl t ↦ inl (t.1, sym (is_true (ltb b.place (from + 32 + rounded n)) _ _ t.0) ∙ h)
  | inr f ↦
      let here : Some (record { from = from; to = b.place - 16 }) ≡ Some gap = sym (is_false (ltb b.place (from + 32 + rounded n)) _ _ f.0) ∙ h in
      let same : gap ≡ record { from = from; to = b.place - 16 } = cc in
      inr (f.1, ap (λ (g : Gap). g.from) same, ap (λ (g : Gap). g.to) same)
]

pub fit_end : (size n from : ℕ) (gap : Gap) → fit_from from size [] n ≡ Some gap → (from + 16 + rounded n ≤ size) × (gap.from ≡ from) × (gap.to ≡ size)
fit_end size n from gap h = elim (lt_cases size (from + 16 + rounded n)) [
  | inl t ↦
      let none : None ≡ Some gap = sym (is_true (ltb size (from + 16 + rounded n)) _ _ t.0) ∙ h in
      absurd cc
  | inr f ↦
      let here : Some (record { from = from; to = size }) ≡ Some gap = sym (is_false (ltb size (from + 16 + rounded n)) _ _ f.0) ∙ h in
      let same : gap ≡ record { from = from; to = size } = cc in
      (f.1, ap (λ (g : Gap). g.from) same, ap (λ (g : Gap). g.to) same)
]

-- what is known of a gap that a walk found
pub record IsRoom (size room from : ℕ) (gap : Gap) : Type 0 where
  pub past : from ≤ gap.from
  pub even : gap.from % 16 ≡ 0
  pub even_to : gap.to % 16 ≡ 0
  pub fits : gap.from + room ≤ gap.to
  pub within : gap.to ≤ size

pub end_even : (b : Block) → b.place % 16 ≡ 0 → end_of b % 16 ≡ 0
end_even b even = omega arith

pub IsRoom-fit : (xs : List ℕ) (size n : ℕ) (gap : Gap) → size % 16 ≡ 0 → (from : ℕ) (bs : List Block) → from % 16 ≡ 0 → AreCells xs from size bs → fit_from from size bs n ≡ Some gap → IsRoom size (16 + rounded n) from gap
IsRoom-fit xs size n gap whole from [] even cells h =
    let e = fit_end size n from gap h in
    record { past = omega (arith, e.1); even = ap (λ (k : ℕ). k % 16) e.1 ∙ even; even_to = ap (λ (k : ℕ). k % 16) e.2 ∙ whole; fits = omega (arith, e.0, e.1, e.2); within = omega (arith, e.2) }
IsRoom-fit xs size n gap whole from (b ∷ bs) even cells h = elim (fit_step size n from gap b bs h) [
  | inl on ↦
      let rest : IsRoom size (16 + rounded n) (end_of b) gap = IsRoom-fit xs size n gap whole (end_of b) bs (end_even b cells.2.1) cells.3 on.1 in
      record { past = omega (arith, cells.0, rest.past); even = rest.even; even_to = rest.even_to; fits = rest.fits; within = rest.within }
  | inr here ↦
      let le : end_of b ≤ size = AreCells-le xs (end_of b) size bs cells.3 in
      record { past = omega (arith, here.1); even = ap (λ (k : ℕ). k % 16) here.1 ∙ even; even_to = omega (arith, here.2, cells.2.1, cells.0); fits = omega (arith, here.0, here.1, here.2); within = omega (arith, here.2) }
]

-- a block more in a gap
module _ (xs ys : List ℕ) (size n : ℕ) (gap : Gap) (new : Block) (kept : KeepsOutside gap.from gap.to xs ys) (place : new.place ≡ gap.from + 16) (ends : end_of new ≤ gap.to) (laid : IsLaid ys new) (gap_after : IsGap ys (end_of new) gap.to) (whole : size % 16 ≡ 0) where
  pub AreCells-with_block : (from : ℕ) (bs : List Block) → from % 16 ≡ 0 → AreCells xs from size bs → fit_from from size bs n ≡ Some gap → AreCells ys from size (with_block new bs)
  AreCells-with_block from [] even cells h =
      let e = fit_end size n from gap h in
      let start : new.place - 16 ≡ from = omega (arith, e.1) in
      (omega (arith, e.1), IsGap-none ys from (new.place - 16) (omega arith), laid, subst (λ (k : ℕ). IsGap ys (end_of new) k) e.2 gap_after)
  AreCells-with_block from (b ∷ bs) even cells h = elim (fit_step size n from gap b bs h) [
    | inl on ↦
        let room : IsRoom size (16 + rounded n) (end_of b) gap = IsRoom-fit xs size n gap whole (end_of b) bs (end_even b cells.2.1) cells.3 on.1 in
        let le : end_of b ≤ gap.from = room.past in
        let rest : AreCells ys (end_of b) size (with_block new bs) = AreCells-with_block (end_of b) bs (end_even b cells.2.1) cells.3 on.1 in
        elim (lt_cases new.place b.place) [
          | inl t ↦ absurd (omega (arith, t.1))
          | inr f ↦
              at_false (λ (l : List Block). AreCells ys from size l) (ltb new.place b.place) (new ∷ b ∷ bs) (b ∷ with_block new bs) f.0
              (cells.0, IsGap-below gap.from gap.to xs ys kept from (b.place - 16) (omega (arith, cells.0)) cells.1, IsLaid-below gap.from gap.to xs ys kept b (omega (arith, cells.0)) le cells.2, rest)
        ]
    | inr here ↦
        elim (lt_cases new.place b.place) [
          | inl t ↦
              at_true (λ (l : List Block). AreCells ys from size l) (ltb new.place b.place) (new ∷ b ∷ bs) (b ∷ with_block new bs) t.0 (
                omega (arith, here.1),
                IsGap-none ys from (new.place - 16) (omega (arith, here.1)),
                laid,
                (
                  omega (arith, here.2, here.0),
                  subst (λ (k : ℕ). IsGap ys (end_of new) k) here.2 gap_after,
                  IsLaid-above gap.from gap.to xs ys kept b (omega (arith, here.2, here.0)) cells.2,
                  AreCells-above gap.from gap.to xs ys kept (end_of b) size bs (omega (arith, here.2)) cells.3,
                ),
              )
          | inr f ↦ absurd (omega (arith, f.1, here.0, here.1))
        ]
  ]

-- the inside of a gap may hold anything
module _ (xs ys : List ℕ) (size n : ℕ) (gap : Gap) (kept : KeepsOutside (gap.from + 16) gap.to xs ys) (whole : size % 16 ≡ 0) where
  pub AreCells-inside : (from : ℕ) (bs : List Block) → from % 16 ≡ 0 → AreCells xs from size bs → fit_from from size bs n ≡ Some gap → AreCells ys from size bs
  AreCells-inside from [] even cells h =
      let e = fit_end size n from gap h in
      IsGap-below (gap.from + 16) gap.to xs ys kept from size (omega (arith, e.1)) cells
  AreCells-inside from (b ∷ bs) even cells h = elim (fit_step size n from gap b bs h) [
    | inl on ↦
        let room : IsRoom size (16 + rounded n) (end_of b) gap = IsRoom-fit xs size n gap whole (end_of b) bs (end_even b cells.2.1) cells.3 on.1 in
        let le : end_of b ≤ gap.from = room.past in (
          cells.0,
          IsGap-below (gap.from + 16) gap.to xs ys kept from (b.place - 16) (omega (arith, cells.0)) cells.1,
          IsLaid-below (gap.from + 16) gap.to xs ys kept b (omega (arith, cells.0)) (omega arith) cells.2,
          AreCells-inside (end_of b) bs (end_even b cells.2.1) cells.3 on.1,
        )
    | inr here ↦ (
      cells.0,
      IsGap-below (gap.from + 16) gap.to xs ys kept from (b.place - 16) (omega (arith, here.1)) cells.1,
      IsLaid-above (gap.from + 16) gap.to xs ys kept b (omega (arith, here.2, here.0)) cells.2,
      AreCells-above (gap.from + 16) gap.to xs ys kept (end_of b) size bs (omega (arith, here.2)) cells.3,
    )
  ]

-- the hole that a block leaves, one block on
pub hole_step : (size place from : ℕ) (gap : Gap) (b : Block) (bs : List Block) → hole_from from size place (b ∷ bs) ≡ Some gap → ((eqb b.place place ≡ true) × (b.place ≡ place) × (gap.from ≡ from) × (gap.to ≡ start_of size bs)) ⊎ ((eqb b.place place ≡ false) × (hole_from (end_of b) size place bs ≡ Some gap))
hole_step size place from gap b bs h = elim (eqb_tells b.place place) [
  | inl t ↦
      let here : Some (record { from = from; to = start_of size bs }) ≡ Some gap = sym (is_true (eqb b.place place) _ _ t.0) ∙ h in
      let same : gap ≡ record { from = from; to = start_of size bs } = cc in
      inl (t.0, t.1, ap (λ (g : Gap). g.from) same, ap (λ (g : Gap). g.to) same)
  | inr f ↦ inr (f.0, sym (is_false (eqb b.place place) _ _ f.0) ∙ h)
]

start_le : (xs : List ℕ) (from size : ℕ) (bs : List Block) → AreCells xs from size bs → (from ≤ start_of size bs) × (start_of size bs ≤ size)
start_le xs from size [] cells = (cells.0, omega arith)
start_le xs from size (b ∷ bs) cells =
    let le : end_of b ≤ size = AreCells-le xs (end_of b) size bs cells.3 in
    (cells.1.0, omega arith)

start_even : (xs : List ℕ) (from size : ℕ) (bs : List Block) → size % 16 ≡ 0 → AreCells xs from size bs → start_of size bs % 16 ≡ 0
start_even xs from size [] whole cells = whole
start_even xs from size (b ∷ bs) whole cells = omega (arith, cells.0, cells.2.1)

pub IsRoom-hole : (xs : List ℕ) (size place : ℕ) (gap : Gap) → size % 16 ≡ 0 → (from : ℕ) (bs : List Block) → from % 16 ≡ 0 → AreCells xs from size bs → hole_from from size place bs ≡ Some gap → IsRoom size 32 from gap
IsRoom-hole xs size place gap whole from [] even cells h = absurd cc
IsRoom-hole xs size place gap whole from (b ∷ bs) even cells h = elim (hole_step size place from gap b bs h) [
  | inl here ↦
      let le = start_le xs (end_of b) size bs cells.3 in
      record { past = omega (arith, here.2); even = ap (λ (k : ℕ). k % 16) here.2 ∙ even; even_to = ap (λ (k : ℕ). k % 16) here.3 ∙ start_even xs (end_of b) size bs whole cells.3; fits = omega (arith, here.2, here.3, le.0, cells.0, cells.2.0); within = omega (arith, here.3, le.1) }
  | inr on ↦
      let rest : IsRoom size 32 (end_of b) gap = IsRoom-hole xs size place gap whole (end_of b) bs (end_even b cells.2.1) cells.3 on.1 in
      record { past = omega (arith, rest.past, cells.0); even = rest.even; even_to = rest.even_to; fits = rest.fits; within = rest.within }
]

-- a block less: one gap is left
module _ (xs ys : List ℕ) (size place : ℕ) (gap : Gap) (kept : KeepsOutside gap.from (gap.from + 16) xs ys) (head : HasHead ys gap.from (gap.to - gap.from) 0) (even : (gap.to - gap.from) % 16 ≡ 0) (whole : size % 16 ≡ 0) where
  merged : (from : ℕ) (b : Block) (bs : List Block) → from + 16 ≤ b.place → IsLaid xs b → AreCells xs (end_of b) size bs → gap.from ≡ from → gap.to ≡ start_of size bs → AreCells ys from size bs
  merged from b [] le laid cells is to =
      let e = AreCells-le xs (end_of b) size [] cells in
      (omega arith, omega (arith, is, to), λ (some : from < size). subst (λ (k : ℕ). HasHead ys from (k - from) 0) to (subst (λ (k : ℕ). HasHead ys k (gap.to - k) 0) is head))
  merged from b (c ∷ cs) le laid cells is to = (
    omega (arith, cells.0),
    (omega (arith, cells.0), omega (arith, is, to), λ (some : from < c.place - 16). subst (λ (k : ℕ). HasHead ys from (k - from) 0) to (subst (λ (k : ℕ). HasHead ys k (gap.to - k) 0) is head)),
    IsLaid-above gap.from (gap.from + 16) xs ys kept c (omega (arith, cells.0, laid.0)) cells.2,
    AreCells-above gap.from (gap.from + 16) xs ys kept (end_of c) size cs (omega (arith, cells.0)) cells.3,
  )

  pub AreCells-without_block : (from : ℕ) (bs : List Block) → from % 16 ≡ 0 → AreCells xs from size bs → hole_from from size place bs ≡ Some gap → AreCells ys from size (without_block place bs)
  AreCells-without_block from [] even_from cells h = absurd cc
  AreCells-without_block from (b ∷ bs) even_from cells h = elim (hole_step size place from gap b bs h) [
    | inl here ↦
        at_true (λ (l : List Block). AreCells ys from size l) (eqb b.place place) bs (b ∷ without_block place bs) here.0
        (merged from b bs cells.0 cells.2 cells.3 here.2 here.3)
    | inr on ↦
        let rest : IsRoom size 32 (end_of b) gap = IsRoom-hole xs size place gap whole (end_of b) bs (end_even b cells.2.1) cells.3 on.1 in
        at_false (λ (l : List Block). AreCells ys from size l) (eqb b.place place) bs (b ∷ without_block place bs) on.0 (
          cells.0,
          IsGap-below gap.from (gap.from + 16) xs ys kept from (b.place - 16) (omega (arith, cells.0, rest.past)) cells.1,
          IsLaid-below gap.from (gap.from + 16) xs ys kept b (omega (arith, cells.0)) rest.past cells.2,
          AreCells-without_block (end_of b) bs (end_even b cells.2.1) cells.3 on.1,
        )
  ]
