-- The first gap is the lowest place where a block fits.
use Rattle.std.proofs.Common.{◌≡◌, ℕ, zero, suc, ◌+◌, ◌<◌, ◌≤◌, ◌⊎◌, List, [], ◌∷◌, Bool, true, false, nat_lt, if◌then◌else◌, Option, Some, None, inl, inr, ⊎_elim, refl, sym, ap, ◌∙◌, arith}
use Rattle.std.specs.List.{AllByRecursion, Contains}
use Rattle.std.proofs.lemmas.Bool.{ltb-true, ltb-false}
use Rattle.std.proofs.lemmas.List.Elements.{All-contains, All-from_recursion, Contains-append_right}
use Rattle.ken_model.specs.declared.values.Block.{Block}
use Rattle.ken_model.specs.Heap.{rounded, end_of, AreBlocks, first_gap_from, IsFit}
use Rattle.ken_model.specs.Laws.{IsLeastFit}
use Rattle.ken_model.proofs.Heaps.{blocks-from}

contains-cases : (x : Block) (xs : List Block) (b : Block) → Contains (x ∷ xs) b → (x ≡ b) ⊎ Contains xs b
contains-cases x xs b (zero, within, is) = inl is
contains-cases x xs b (suc k, within, is) = inr (k, omega arith, is)

-- all blocks stand past an earlier place
all-past : (low from size : ℕ) (bs : List Block) → low ≤ from → AreBlocks from size bs → AllByRecursion (λ (b : Block). low + 16 ≤ b.place) bs
all-past low from size [] le h = tt
all-past low from size (b ∷ bs) le h = (omega (arith, h.0), all-past low (end_of b) size bs (omega (arith, h.0)) h.3)

-- a gap begins at `from` at the earliest
starts-late : (from size n place : ℕ) (bs : List Block) → AreBlocks from size bs → (fit : IsFit from size bs n place) → from ≤ fit.start
starts-late from size n place bs h fit =
    ⊎_elim
    (λ first. omega arith)
    (λ after. let past = All-contains (λ (b : Block). from + 16 ≤ b.place) bs after.0 (All-from_recursion (λ (b : Block). from + 16 ≤ b.place) bs (all-past from from size bs (omega arith) h)) after.1 in omega (arith, after.2))
    fit.begins

-- where the first gap is too small, what fits does so after the first block
skips : (from size n place : ℕ) (b : Block) (bs : List Block) → AreBlocks from size (b ∷ bs) → b.place < from + 32 + rounded n → IsFit from size (b ∷ bs) n place → IsFit (end_of b) size bs n place
skips from size n place b bs h small fit =
    record {
      start = fit.start;
      begins = ⊎_elim
          (λ first. absurd (⊎_elim {C = ⊥} (λ before. omega (arith, fit.stands)) (λ after. omega (arith, h.0)) fit.apart.0))
          (λ after. ⊎_elim (λ same. inl (after.2 ∙ ap end_of (sym same))) (λ later. inr (after.0, later, after.2)) (contains-cases b bs after.0 after.1))
          fit.begins;
      stands = fit.stands;
      apart = fit.apart.1;
      within = fit.within;
    }

-- and what fits there fits
unskips : (from size n place : ℕ) (b : Block) (bs : List Block) → AreBlocks from size (b ∷ bs) → IsFit (end_of b) size bs n place → IsFit from size (b ∷ bs) n place
unskips from size n place b bs h fit =
    record {
      start = fit.start;
      begins = ⊎_elim
          (λ first. inr (b, (0, omega arith, refl), first))
          (λ after. inr (after.0, Contains-append_right (b ∷ []) bs after.0 after.1, after.2))
          fit.begins;
      stands = fit.stands;
      apart = (inr (starts-late (end_of b) size n place bs h.3 fit), fit.apart);
      within = fit.within;
    }

-- what ends before the first block is apart from all
apart-from : (from size n : ℕ) (bs : List Block) (low : ℕ) → AreBlocks low size bs → from + 16 + rounded n ≤ low → AllByRecursion (λ (b : Block). (from + 16 + rounded n + 16 ≤ b.place) ⊎ (end_of b ≤ from)) bs
apart-from from size n [] low h le = tt
apart-from from size n (b ∷ bs) low h le = (inl (omega (arith, h.0)), apart-from from size n bs (end_of b) h.3 (omega (arith, h.0)))

first-fit : (from size n : ℕ) (bs : List Block) (low : ℕ) → AreBlocks low size bs → from + 16 + rounded n ≤ low → IsFit from size bs n (from + 16)
first-fit from size n bs low h le = record {
  start = from;
  begins = inl refl;
  stands = refl;
  apart = apart-from from size n bs low h le;
  within = omega (arith, blocks-from low size bs h);
}

none-lower : (from size n : ℕ) (bs : List Block) → AreBlocks from size bs → (q : ℕ) → q < from + 16 → IsFit from size bs n q → ⊥
none-lower from size n bs h q less fit = omega (arith, starts-late from size n q bs h fit, fit.stands)

least-skipped : (from size n : ℕ) (b : Block) (bs : List Block) (o : Option ℕ) → AreBlocks from size (b ∷ bs) → b.place < from + 32 + rounded n → IsLeastFit (end_of b) size bs n o → IsLeastFit from size (b ∷ bs) n o
least-skipped from size n b bs None h small none = λ q fit. none q (skips from size n q b bs h small fit)
least-skipped from size n b bs (Some p) h small least = (unskips from size n p b bs h least.0, λ q less fit. least.1 q less (skips from size n q b bs h small fit))

pub least-fit : (from size n : ℕ) (bs : List Block) → AreBlocks from size bs → IsLeastFit from size bs n (first_gap_from from size bs n)
least-fit from size n [] h = go (nat_lt size (from + 16 + rounded n)) (ltb-true size (from + 16 + rounded n)) (ltb-false size (from + 16 + rounded n))
  where
    go : (t : Bool) → (t ≡ true → size < from + 16 + rounded n) → (t ≡ false → from + 16 + rounded n ≤ size) → IsLeastFit from size [] n (if t then None else Some (from + 16))
    go true full fits = λ q fit. omega (arith, full refl, fit.within, fit.stands, starts-late from size n q [] h fit)
    go false full fits = (record { start = from; begins = inl refl; stands = refl; apart = tt; within = fits refl }, none-lower from size n [] h)
least-fit from size n (b ∷ bs) h = go (nat_lt b.place (from + 32 + rounded n)) (ltb-true b.place (from + 32 + rounded n)) (ltb-false b.place (from + 32 + rounded n)) (least-fit (end_of b) size n bs h.3)
  where
    go : (t : Bool) → (t ≡ true → b.place < from + 32 + rounded n) → (t ≡ false → from + 32 + rounded n ≤ b.place) → IsLeastFit (end_of b) size bs n (first_gap_from (end_of b) size bs n) → IsLeastFit from size (b ∷ bs) n (if t then first_gap_from (end_of b) size bs n else Some (from + 16))
    go true small fits rest = least-skipped from size n b bs (first_gap_from (end_of b) size bs n) h (small refl) rest
    go false small fits rest =
        let low : AreBlocks (from + 16 + rounded n) size (b ∷ bs) = (omega (arith, fits refl), h.1, h.2, h.3) in
        (first-fit from size n (b ∷ bs) (from + 16 + rounded n) low (omega arith), none-lower from size n (b ∷ bs) h)
