-- A head that is none: no cells go on from it.
use Rattle.std.proofs.Common.{◌≡◌, ℕ, ◌+◌, ◌-◌, ◌%◌, ◌^◌, ◌<◌, ◌≤◌, Bool, true, false, List, [], ◌∷◌, length, inl, inr, refl, sym, subst, arith}
use Rattle.std.proofs.lemmas.Bool.{cases_lt}
use Rattle.ken_model.specs.declared.values.Block.{Block}
use Rattle.ken_model.specs.Heap.{rounded, end_of}
use Rattle.ken_model.specs.Layout.{part, HasHead, IsGap, IsLaid, AreCells}
use Rattle.ken_model.specs.Broken.{BreaksAt}
use Rattle.ken_model.specs.Broken.BreaksAt.{head as breaks_at_head}
use Rattle.ken_model.specs.Checks.{HasHeader, IsCell}
use Rattle.ken_model.proofs.Heads.{same_span}
use Rattle.ken_model.proofs.Walked.{AreCells-le, AreChecked, last_end, last_gap}

module _ (xs : List ℕ) (small : length xs < 2 ^ 32) where
  -- a gap's head is no block's
  gap_or_block : (from to : ℕ) (b : Block) → to ≤ length xs → from < to → IsGap xs from to → from ≡ b.place - 16 → 16 ≤ b.place → end_of b ≤ length xs → IsLaid xs b → ⊥
  gap_or_block from to b within some gap is past ends laid =
      let head : HasHead xs from (16 + rounded (length b.bytes)) (length b.bytes) = subst (λ (k : ℕ). HasHead xs k (16 + rounded (length b.bytes)) (length b.bytes)) (sym is) laid.2 in
      let same = same_span xs from (to - from) 0 (16 + rounded (length b.bytes)) (length b.bytes) (omega arith) (omega arith) (omega arith) (omega arith) (gap.2 some) head in
      omega (arith, same.1, laid.0)

  -- two gaps from one place end at one place
  one_gap : (from to to' : ℕ) → to ≤ length xs → to' ≤ length xs → from < to → from < to' → IsGap xs from to → IsGap xs from to' → to ≡ to'
  one_gap from to to' within within' some some' gap gap' =
      let same = same_span xs from (to - from) 0 (to' - from) 0 (omega arith) (omega arith) (omega arith) (omega arith) (gap.2 some) (gap'.2 some') in
      omega (arith, same.0)

  -- two blocks at one place end at one place
  one_block : (b c : Block) → b.place ≡ c.place → 16 ≤ b.place → end_of b ≤ length xs → end_of c ≤ length xs → IsLaid xs b → IsLaid xs c → end_of b ≡ end_of c
  one_block b c place past ends ends' laid laid' =
      let head : HasHead xs (b.place - 16) (16 + rounded (length c.bytes)) (length c.bytes) = subst (λ (k : ℕ). HasHead xs (k - 16) (16 + rounded (length c.bytes)) (length c.bytes)) (sym place) laid'.2 in
      let same = same_span xs (b.place - 16) (16 + rounded (length b.bytes)) (length b.bytes) (16 + rounded (length c.bytes)) (length c.bytes) (omega arith) (omega arith) (omega arith) (omega arith) laid.2 head in
      omega (arith, same.1)

  -- two walks from one place have the same first block
  one_first : (from : ℕ) (b c : Block) → from + 16 ≤ b.place → from + 16 ≤ c.place → end_of b ≤ length xs → end_of c ≤ length xs → IsGap xs from (b.place - 16) → IsGap xs from (c.place - 16) → IsLaid xs b → IsLaid xs c → end_of b ≡ end_of c
  one_first from b c past past' ends ends' gap gap' laid laid' = elim (cases_lt from (b.place - 16)) [
    | inl some ↦ elim (cases_lt from (c.place - 16)) [
      | inl some' ↦
          let same : b.place - 16 ≡ c.place - 16 = one_gap from (b.place - 16) (c.place - 16) (omega arith) (omega arith) some some' gap gap' in
          one_block b c (omega arith) (omega arith) ends ends' laid laid'
      | inr none' ↦ absurd (gap_or_block from (b.place - 16) c (omega arith) some gap (omega arith) (omega arith) ends' laid')
    ]
    | inr none ↦ elim (cases_lt from (c.place - 16)) [
      | inl some' ↦ absurd (gap_or_block from (c.place - 16) b (omega arith) some' gap' (omega arith) (omega arith) ends laid)
      | inr none' ↦ one_block b c (omega arith) (omega arith) ends ends' laid laid'
    ]
  ]

  module _ (at to : ℕ) (past_at : at < to) (within : to ≤ length xs) (no_block : (b : Block) → b.place ≡ at + 16 → end_of b ≤ length xs → IsLaid xs b → ⊥) where
    pub stuck : (from : ℕ) (before bs : List Block) → ((end : ℕ) → at < end → end ≤ length xs → IsGap xs (last_end from before) end → ⊥) → AreCells xs from at before → AreCells xs from to bs → ⊥
    stuck from [] [] no_gap front cells = no_gap to past_at within cells
    stuck from [] (c ∷ cs) no_gap front cells =
        let ends : end_of c ≤ to = AreCells-le xs (end_of c) to cs cells.3 in
        elim (cases_lt at (c.place - 16)) [
          | inl past ↦ no_gap (c.place - 16) past (omega arith) cells.1
          | inr le ↦ elim (cases_lt (c.place - 16) at) [
            | inr ge ↦ no_block c (omega (arith, cells.0)) (omega arith) cells.2
            | inl lt ↦ elim (cases_lt from (c.place - 16)) [
              | inl some ↦
                  let same : at ≡ c.place - 16 = one_gap from at (c.place - 16) (omega arith) (omega arith) (omega arith) some front cells.1 in
                  absurd (omega arith)
              | inr none ↦ gap_or_block from at c (omega arith) (omega (arith, cells.0)) front (omega (arith, cells.0)) (omega (arith, cells.0)) (omega arith) cells.2
            ]
          ]
        ]
    stuck from (d ∷ ds) [] no_gap front cells =
        let ends : end_of d ≤ at = AreCells-le xs (end_of d) at ds front.3 in
        elim (cases_lt from (d.place - 16)) [
          | inl some ↦
              let same : to ≡ d.place - 16 = one_gap from to (d.place - 16) (omega arith) (omega arith) (omega arith) some cells front.1 in
              absurd (omega arith)
          | inr none ↦ gap_or_block from to d (omega arith) (omega (arith, front.0)) cells (omega (arith, front.0)) (omega (arith, front.0)) (omega arith) front.2
        ]
    stuck from (d ∷ ds) (c ∷ cs) no_gap front cells =
        let ends : end_of d ≤ at = AreCells-le xs (end_of d) at ds front.3 in
        let ends' : end_of c ≤ to = AreCells-le xs (end_of c) to cs cells.3 in
        let same : end_of c ≡ end_of d = one_first from c d cells.0 front.0 (omega arith) (omega arith) cells.1 front.1 cells.2 front.2 in
        stuck (end_of d) ds cs no_gap front.3 (subst (λ (k : ℕ). AreCells xs k to cs) same cells.3)

-- no head of a cell stands at a place
module _ (xs : List ℕ) (at : ℕ) (after_gap : Bool) (before : List Block) (s : AreChecked xs at after_gap before) (none : (span len : ℕ) → IsCell (part at 16 xs) (length xs - at) span len after_gap → ⊥) where
  no_block_there : (b : Block) → b.place ≡ at + 16 → end_of b ≤ length xs → IsLaid xs b → ⊥
  no_block_there b place ends laid =
      let start : b.place - 16 ≡ at = omega arith in
      none (16 + rounded (length b.bytes)) (length b.bytes) (record {
        gap = λ nothing. absurd (omega (arith, laid.0));
        block = λ some. refl;
        within = omega arith;
        is = subst (λ (k : ℕ). HasHead xs k (16 + rounded (length b.bytes)) (length b.bytes)) start laid.2;
      })

  no_gap_there : length xs < 2 ^ 32 → (to : ℕ) → at < to → to ≤ length xs → IsGap xs (last_end 16 before) to → ⊥
  no_gap_there small to past within gap = go after_gap refl
    where
      go : (g : Bool) → after_gap ≡ g → ⊥
      go true is =
          let lt : last_end 16 before < at = s.gap is in
          let same : at ≡ to = one_gap xs small (last_end 16 before) at to s.within within lt (omega arith) (last_gap xs 16 at before s.cells) gap in
          omega arith
      go false is =
          let here : IsGap xs at to = subst (λ (k : ℕ). IsGap xs k to) (s.full is) gap in
          let even : (to - at) % 16 ≡ 0 = here.1 in
          none (to - at) 0 (record {
            gap = λ nothing. (is, omega arith, even);
            block = λ some. absurd (omega arith);
            within = omega arith;
            is = here.2 past;
          })

  pub breaks_there : HasHeader xs → at < length xs → BreaksAt xs at
  breaks_there header below =
      let small : length xs < 2 ^ 32 = omega (arith, header.most) in
      breaks_at_head at header.name header.count (record {
        before = before;
        cells = s.cells;
        short = below;
        none = λ to bs past within cells. stuck xs small at to past within no_block_there 16 before bs (no_gap_there small) s.cells cells;
      })
