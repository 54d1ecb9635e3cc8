-- The room that a gap or a block has, from block to block.
use Rattle.std.proofs.Common.{◌≡◌, ℕ, ◌+◌, ◌-◌, ◌%◌, ltb, List, [], ◌∷◌, Some, is_some, inl, inr, refl, sym, ap, ◌∙◌, arith}
use Rattle.std.specs.Prelude.{option_map}
use Rattle.std.specs.Option.{option_map_or}
use Rattle.ken_model.specs.declared.values.Block.{Block}
use Rattle.ken_model.specs.Heap.{rounded, end_of, block_at, place_past}
use Rattle.ken_alloc.specs.declared.walk.Gap.{Gap}
use Rattle.ken_alloc.specs.declared.walk.Found.{Found}
use Rattle.ken_model.specs.Layout.{AreCells}
use Rattle.ken_alloc.specs.Changes.{end_before}
use Rattle.ken_alloc.specs.Walk.{start_of, first_of, fit_from, hole_from}
use Rattle.ken_model.proofs.Choices.{lt_cases, is_true, is_false}
use Rattle.ken_alloc.proofs.Cells.{end_even, fit_step, fit_end, hole_step, IsRoom, IsRoom-fit}
use Rattle.ken_alloc.proofs.Blocks.{StandsAt, stands_at, past_step, next_place, is_some-hole}

-- the gap that fits ends where the room ends in which the new block stands
pub room_end-fit : (xs : List ℕ) (size n : ℕ) (gap : Gap) → size % 16 ≡ 0 → (from : ℕ) (bs : List Block) → from % 16 ≡ 0 → AreCells xs from size bs → fit_from from size bs n ≡ Some gap → option_map_or (λ (next : ℕ). next - 16) (place_past (gap.from + 16) bs) size ≡ gap.to
room_end-fit xs size n gap whole from [] even cells h = let e = fit_end size n from gap h in sym e.2
room_end-fit xs size n gap whole from (b ∷ bs) even cells h = elim (fit_step size n from gap b bs h) [
  | inl on ↦
      let room : IsRoom size (16 + rounded n) (end_of b) gap = IsRoom-fit xs size n gap whole (end_of b) bs (end_even b cells.2.1) cells.3 on.1 in
      ap (λ o. option_map_or (λ (next : ℕ). next - 16) o size) (past_step (gap.from + 16) b bs (omega (arith, room.past)))
      ∙ room_end-fit xs size n gap whole (end_of b) bs (end_even b cells.2.1) cells.3 on.1
  | inr here ↦ elim (lt_cases (gap.from + 16) b.place) [
    | inl t ↦ ap (λ o. option_map_or (λ (next : ℕ). next - 16) o size) (is_true (ltb (gap.from + 16) b.place) (Some b.place) (place_past (gap.from + 16) bs) t.0) ∙ sym here.2
    | inr f ↦ absurd (omega (arith, f.1, here.0, here.1))
  ]
]

first_head : (size : ℕ) (bs : List Block) → option_map_or (λ (next : ℕ). next - 16) (option_map (λ (f : Found). f.place) (first_of bs)) size ≡ start_of size bs
first_head size [] = refl
first_head size (b ∷ bs) = refl

-- the gap that a block leaves is the room that it stands in
pub room-hole : (xs : List ℕ) (size place : ℕ) (gap : Gap) (from : ℕ) (bs : List Block) → AreCells xs from size bs → hole_from from size place bs ≡ Some gap → (end_before from place bs ≡ gap.from) × (option_map_or (λ (next : ℕ). next - 16) (place_past place bs) size ≡ gap.to)
room-hole xs size place gap from [] cells h = absurd cc
room-hole xs size place gap from (b ∷ bs) cells h = elim (hole_step size place from gap b bs h) [
  | inl here ↦ elim (lt_cases b.place place) [
    | inl t ↦ absurd (omega (arith, t.1, here.1))
    | inr f ↦ (
      is_false (ltb b.place place) (end_before (end_of b) place bs) from f.0 ∙ sym here.2,
      ap (λ o. option_map_or (λ (next : ℕ). next - 16) o size) (past_step place b bs (omega (arith, here.1)) ∙ next_place xs size place (end_of b) bs (omega (arith, here.1)) cells.3) ∙ first_head size bs ∙ sym here.3,
    )
  ]
  | inr on ↦
      let some : is_some (block_at place bs) ≡ is_some (hole_from (end_of b) size place bs) = sym (is_some-hole size place (end_of b) bs) in
      let there : StandsAt xs size (end_of b) place bs = stands_at xs size place (end_of b) bs cells.3 (some ∙ ap (λ o. is_some o) on.1) in
      let rest = room-hole xs size place gap (end_of b) bs cells.3 on.1 in
      elim (lt_cases b.place place) [
        | inr f ↦ absurd (omega (arith, f.1, there.past))
        | inl t ↦ (
          is_true (ltb b.place place) (end_before (end_of b) place bs) from t.0 ∙ rest.0,
          ap (λ o. option_map_or (λ (next : ℕ). next - 16) o size) (past_step place b bs (omega (arith, t.1))) ∙ rest.1,
        )
      ]
]
