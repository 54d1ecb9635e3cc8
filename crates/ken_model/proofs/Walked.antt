-- Cells that were tested, one after another.
use Rattle.std.proofs.Common.{◌≡◌, ℕ, ◌+◌, ◌-◌, ◌/◌, ◌%◌, ◌^◌, ◌<◌, ◌≤◌, Bool, true, false, eqb, List, [], ◌∷◌, ◌++◌, length, take, drop, inl, inr, refl, sym, ap, ◌∙◌, subst, arith, length-take-le, length-drop}
use Rattle.std.proofs.lemmas.Bool.Decides.{eqb_tells}
use Rattle.std.proofs.lemmas.List.{append-nil}
use Rattle.byteorder.specs.Endian.{big_bytes, big_number}
use Rattle.byteorder.specs.Numbers.{big_from-bytes, big_from-take}
use Rattle.ken_model.specs.declared.values.Block.{Block}
use Rattle.ken_model.specs.Heap.{rounded, end_of}
use Rattle.ken_model.specs.Layout.{part, HasHead, IsGap, IsLaid, AreCells, StandsFor}
use Rattle.ken_model.specs.Checks.{HasHeader, IsCell, block_in, with_blocks}
use Rattle.ken_model.proofs.Choices.{is_true, is_false}

-- cells end where they began, or later
pub AreCells-le : (xs : List ℕ) (from to : ℕ) (bs : List Block) → AreCells xs from to bs → from ≤ to
AreCells-le xs from to [] cells = cells.0
AreCells-le xs from to (b ∷ bs) cells =
    let rest : end_of b ≤ to = AreCells-le xs (end_of b) to bs cells.3 in
    omega (arith, cells.0)

-- nothing is a gap of nothing
pub IsGap-none : (xs : List ℕ) (from to : ℕ) → from ≡ to → IsGap xs from to
IsGap-none xs from to is = (omega arith, omega arith, λ some. absurd (omega arith))

-- where the last of some blocks ends
abbrev pub last_end : ℕ → List Block → ℕ
last_end from [] = from
last_end from (b ∷ bs) = last_end (end_of b) bs

pub last_gap : (xs : List ℕ) (from to : ℕ) (bs : List Block) → AreCells xs from to bs → IsGap xs (last_end from bs) to
last_gap xs from to [] cells = cells
last_gap xs from to (b ∷ bs) cells = last_gap xs (end_of b) to bs cells.3

-- another end
other_end : (xs : List ℕ) (from to to' : ℕ) (bs : List Block) → AreCells xs from to bs → IsGap xs (last_end from bs) to' → AreCells xs from to' bs
other_end xs from to to' [] cells gap = gap
other_end xs from to to' (b ∷ bs) cells gap = (cells.0, cells.1, cells.2, other_end xs (end_of b) to to' bs cells.3 gap)

-- a block more
one_more : (xs : List ℕ) (from at to : ℕ) (bs : List Block) (b : Block) → AreCells xs from at bs → b.place ≡ at + 16 → IsLaid xs b → to ≡ end_of b → AreCells xs from to (bs ++ b ∷ [])
one_more xs from at to [] b cells place laid end =
    let start : at ≡ b.place - 16 = omega arith in
    (omega (arith, cells.0), subst (λ (k : ℕ). IsGap xs from k) start cells, laid, IsGap-none xs (end_of b) to (sym end))
one_more xs from at to (c ∷ cs) b cells place laid end = (cells.0, cells.1, cells.2, one_more xs (end_of c) at to cs b cells.3 place laid end)

last_end-push : (from : ℕ) (bs : List Block) (b : Block) → last_end from (bs ++ b ∷ []) ≡ end_of b
last_end-push from [] b = refl
last_end-push from (c ∷ cs) b = last_end-push (end_of c) cs b

-- so far, these blocks
pub record AreChecked (xs : List ℕ) (at : ℕ) (after_gap : Bool) (before : List Block) : Type 0 where
  pub cells : AreCells xs 16 at before
  pub even : at % 16 ≡ 0
  pub within : at ≤ length xs
  pub full : after_gap ≡ false → last_end 16 before ≡ at
  pub gap : after_gap ≡ true → last_end 16 before < at

pub checked_none : (xs : List ℕ) → HasHeader xs → AreChecked xs 16 false []
checked_none xs header =
    let some : 256 ≤ length xs = header.some in
    record { cells = IsGap-none xs 16 16 refl; even = refl; within = omega arith; full = λ e. refl; gap = λ e. absurd cc }

module _ (xs : List ℕ) (at span len : ℕ) (after_gap : Bool) (before : List Block) (s : AreChecked xs at after_gap before) (cell : IsCell (part at 16 xs) (length xs - at) span len after_gap) where
  fits : at + span ≤ length xs
  fits = omega (arith, s.within, cell.within)

  checked_gap : len ≡ 0 → AreChecked xs (at + span) true before
  checked_gap none =
      let g = cell.gap none in
      let last : last_end 16 before ≡ at = s.full g.0 in
      let width : at + span - at ≡ span = omega arith in
      let here : IsGap xs at (at + span) = (omega arith, omega (arith, g.2), λ (some : at < at + span). subst (λ (k : ℕ). HasHead xs at k 0) (sym width) (subst (λ (k : ℕ). HasHead xs at span k) none cell.is)) in
      record {
        cells = other_end xs 16 at (at + span) before s.cells (subst (λ (k : ℕ). IsGap xs k (at + span)) (sym last) here);
        even = omega (arith, s.even, g.2);
        within = fits;
        full = λ e. absurd cc;
        gap = λ e. omega (arith, g.1);
      }

  checked_block : 0 < len → AreChecked xs (at + span) false (before ++ record { place = at + 16; bytes = part (at + 16) len xs } ∷ [])
  checked_block some =
      let span_is : span ≡ 16 + rounded len = cell.block some in
      let within : at + span ≤ length xs = fits in
      let long : length {A = ℕ} (part (at + 16) len xs) ≡ len = length-take-le len (drop (at + 16) xs) (omega (arith, length-drop (at + 16) xs)) in
      let b : Block = record { place = at + 16; bytes = part (at + 16) len xs } in
      let start : at ≡ at + 16 - 16 = omega arith in
      let head : HasHead xs at (16 + rounded len) len = subst (λ (k : ℕ). HasHead xs at k len) span_is cell.is in
      let laid : IsLaid xs b =
      (omega (arith, long), omega (arith, s.even), subst (λ (k : ℕ). HasHead xs (at + 16 - 16) (16 + rounded k) k) (sym long) (subst (λ (k : ℕ). HasHead xs k (16 + rounded len) len) start head), ap (λ (k : ℕ). part (at + 16) k xs) long) in
      let end : at + span ≡ end_of b = omega (arith, long) in
      record {
        cells = one_more xs 16 at (at + span) before b s.cells refl laid end;
        even = omega (arith, s.even);
        within = within;
        full = λ e. last_end-push 16 before b ∙ sym end;
        gap = λ e. absurd cc;
      }

  pub checked_more : (to : ℕ) (is_gap : Bool) → to ≡ at + span → is_gap ≡ eqb len 0 → AreChecked xs to is_gap (before ++ block_in xs at len)
  checked_more to is_gap to_is gap_is =
      let b : Block = record { place = at + 16; bytes = part (at + 16) len xs } in
      subst (λ (k : ℕ). AreChecked xs k is_gap (before ++ block_in xs at len)) (sym to_is) (elim (eqb_tells len 0) [
        | inl t ↦
            let nothing : before ≡ before ++ block_in xs at len = sym (append-nil before) ∙ ap (λ (l : List Block). before ++ l) (sym (is_true (eqb len 0) [] (b ∷ []) t.0)) in
            subst (λ (l : List Block). AreChecked xs (at + span) is_gap l) nothing (subst (λ (g : Bool). AreChecked xs (at + span) g before) (sym (gap_is ∙ t.0)) (checked_gap t.1))
        | inr f ↦
            let one : before ++ b ∷ [] ≡ before ++ block_in xs at len = ap (λ (l : List Block). before ++ l) (sym (is_false (eqb len 0) [] (b ∷ []) f.0)) in
            subst (λ (l : List Block). AreChecked xs (at + span) is_gap l) one (subst (λ (g : Bool). AreChecked xs (at + span) g (before ++ b ∷ [])) (sym (gap_is ∙ f.0)) (checked_block (omega (arith, f.1))))
      ])

root_small : (xs : List ℕ) → take 8 xs ≡ big_bytes 8 (big_number 8 xs) → big_number 8 xs < 2 ^ 64
root_small xs is =
    let e : big_number 8 xs ≡ big_number 8 xs % 256 ^ 8 = sym (big_from-take 0 8 8 xs (omega arith)) ∙ ap (λ (ws : List ℕ). big_number 8 ws) (is ∙ sym (append-nil (big_bytes 8 (big_number 8 xs)))) ∙ big_from-bytes 8 (big_number 8 xs) [] in
    small (big_number 8 xs) e
  where
    small : (x : ℕ) → x ≡ x % 256 ^ 8 → x < 2 ^ 64
    small x e = omega arith

-- all cells are right
pub checked_all : (xs : List ℕ) (at : ℕ) (after_gap : Bool) (before : List Block) → HasHeader xs → AreChecked xs at after_gap before → length xs ≤ at → StandsFor xs (with_blocks xs before)
checked_all xs at after_gap before header s end =
    let last : at ≡ length xs = omega (arith, s.within) in
    record {
      size = refl;
      pages = (length xs / 256, omega (arith, header.some), omega (arith, header.most), omega (arith, header.whole));
      small = root_small xs header.root;
      root = header.root;
      name = header.name;
      count = header.count;
      cells = subst (λ (k : ℕ). AreCells xs 16 k before) last s.cells;
    }
