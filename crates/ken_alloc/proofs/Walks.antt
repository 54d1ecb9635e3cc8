-- Walks over cells, a block at a time.
use Rattle.std.proofs.Common.{◌≡◌, ◌≢◌, ℕ, ◌+◌, ◌-◌, ◌%◌, ◌^◌, ◌<◌, ◌≤◌, true, false, true≢false, ltb, eqb, List, [], ◌∷◌, ◌++◌, length, drop, Option, Some, None, ◌⊎◌, inl, inr, refl, sym, ap, ◌∙◌, subst, arith}
use Rattle.std.proofs.lemmas.Bool.{cases_lt}
use Rattle.std.proofs.lemmas.List.{append-nil, append_assoc}
use Rattle.byteorder.specs.Endian.{big_number}
use Rattle.ken_model.specs.declared.values.Block.{Block}
use Rattle.ken_model.specs.declared.values.Value.{Value}
use Rattle.ken_model.specs.Heap.{rounded, end_of}
use Rattle.ken_alloc.specs.declared.walk.Found.{Found}
use Rattle.ken_alloc.specs.declared.walk.Gap.{Gap}
use Rattle.ken_model.specs.Layout.{part, IsGap, AreCells, StandsFor}
use Rattle.ken_alloc.specs.Walk.{IsWalk, CanWalk, start_of, first_of, page_rest, fit_from, hole_from}
use Rattle.ken_alloc.specs.Objects.{has_front, place_of_front}
use Rattle.ken_alloc.proofs.Rests.{rest_span, rest_len}
use Rattle.ken_model.proofs.Heads.{IsRead, IsRead-from_head}
use Rattle.ken_model.proofs.Choices.{lt_cases, is_true, is_false}
use Rattle.ken_model.proofs.Walked.{AreCells-le}
use Rattle.ken_model.proofs.Unique.{IsSized, IsSized-from_stands}
use Rattle.std.proofs.lemmas.Bool.Decides.{eqb_tells}

-- the walk over the whole heap
pub walk_all : (xs : List ℕ) (v : Value) → StandsFor xs v → IsWalk xs 16 v.blocks
walk_all xs v stands =
    let sized : IsSized xs = IsSized-from_stands xs v stands in
    record { even = refl; whole = omega arith; small = omega arith; cells = subst (λ (k : ℕ). AreCells xs 16 k v.blocks) (sym stands.size) stands.cells }

pub can_walk : (xs : List ℕ) (from : ℕ) (rest : List Block) → IsWalk xs from rest → CanWalk xs from
can_walk xs from rest walk = record { rest = rest; walk = walk }

pub walk_on : (xs : List ℕ) (from : ℕ) (b : Block) (bs : List Block) → IsWalk xs from (b ∷ bs) → IsWalk xs (end_of b) bs
walk_on xs from b bs walk = record { even = omega (arith, walk.cells.2.1); whole = walk.whole; small = walk.small; cells = walk.cells.3 }

-- before the end there is room for a head
pub head_within : (xs : List ℕ) (from : ℕ) (rest : List Block) → IsWalk xs from rest → from ≢ length xs → from + 16 ≤ length xs
head_within xs from rest walk ne =
    let le : from ≤ length xs = AreCells-le xs from (length xs) rest walk.cells in
    let even : from % 16 ≡ 0 = walk.even in
    let whole : length xs % 16 ≡ 0 = walk.whole in
    omega arith

-- what the head of a block says
block_read : (xs : List ℕ) (from : ℕ) (b : Block) (bs : List Block) → IsWalk xs from (b ∷ bs) → IsRead xs (b.place - 16) (16 + rounded (length b.bytes)) (length b.bytes)
block_read xs from b bs walk =
    let le : end_of b ≤ length xs = AreCells-le xs (end_of b) (length xs) bs walk.cells.3 in
    let small : length xs < 2 ^ 32 = walk.small in
    IsRead-from_head xs (b.place - 16) (16 + rounded (length b.bytes)) (length b.bytes) (omega (arith, walk.cells.0)) (omega (arith, walk.cells.0)) walk.cells.2.2

gap_read : (xs : List ℕ) (from to : ℕ) → to ≤ length xs → length xs < 2 ^ 32 → from < to → IsGap xs from to → IsRead xs from (to - from) 0
gap_read xs from to le small some gap = IsRead-from_head xs from (to - from) 0 (omega arith) (omega arith) (gap.2 some)

module _ (xs : List ℕ) (from span len : ℕ) (span_is : span ≡ big_number 4 (drop from xs)) (len_is : len ≡ big_number 4 (drop (from + 4) xs)) where
  pub over_gap : (rest : List Block) → IsWalk xs from rest → from ≢ length xs → len ≡ 0 → from + span ≡ start_of (length xs) rest
  over_gap [] walk ne zero_len =
      let read : IsRead xs from (length xs - from) 0 = gap_read xs from (length xs) (omega arith) walk.small (omega (arith, walk.cells.0)) walk.cells in
      let is : span ≡ length xs - from = span_is ∙ read.span_is in
      omega (arith, walk.cells.0)
  over_gap (b ∷ bs) walk ne zero_len = elim (cases_lt from (b.place - 16)) [
    | inl some ↦
        let le : end_of b ≤ length xs = AreCells-le xs (end_of b) (length xs) bs walk.cells.3 in
        let read : IsRead xs from (b.place - 16 - from) 0 = gap_read xs from (b.place - 16) (omega arith) walk.small some walk.cells.1 in
        let is : span ≡ b.place - 16 - from = span_is ∙ read.span_is in
        omega arith
    | inr none ↦
        let start : b.place - 16 ≡ from = omega (arith, walk.cells.0) in
        let read : IsRead xs (b.place - 16) (16 + rounded (length b.bytes)) (length b.bytes) = block_read xs from b bs walk in
        let is : len ≡ length b.bytes = len_is ∙ ap (λ (k : ℕ). big_number 4 (drop (k + 4) xs)) (sym start) ∙ read.len_is in
        absurd (omega (arith, walk.cells.2.0))
  ]

  pub at_block : (rest : List Block) → IsWalk xs from rest → from ≢ length xs → len ≢ 0 → from ≡ start_of (length xs) rest
  at_block [] walk ne some_len =
      let read : IsRead xs from (length xs - from) 0 = gap_read xs from (length xs) (omega arith) walk.small (omega (arith, walk.cells.0)) walk.cells in
      absurd (some_len (len_is ∙ read.len_is))
  at_block (b ∷ bs) walk ne some_len = elim (cases_lt from (b.place - 16)) [
    | inl some ↦
        let le : end_of b ≤ length xs = AreCells-le xs (end_of b) (length xs) bs walk.cells.3 in
        let read : IsRead xs from (b.place - 16 - from) 0 = gap_read xs from (b.place - 16) (omega arith) walk.small some walk.cells.1 in
        absurd (some_len (len_is ∙ read.len_is))
    | inr none ↦ omega (arith, walk.cells.0)
  ]

-- the cell at a place is a gap
pub record IsGapCell (xs : List ℕ) (at span : ℕ) (rest : List Block) : Type 0 where
  pub start : at + span ≡ start_of (length xs) rest
  pub some : 16 ≤ span
  pub within : at + span ≤ length xs
  pub walk : IsWalk xs (at + span) rest

-- the cell at a place is the next block's
pub record IsBlockCell (xs : List ℕ) (at span len : ℕ) (rest : List Block) : Type 0 where
  pub block : Block
  pub others : List Block
  pub is : rest ≡ block ∷ others
  pub place : block.place ≡ at + 16
  pub long : length block.bytes ≡ len
  pub bytes : block.bytes ≡ part (at + 16) len xs
  pub end : end_of block ≡ at + span
  pub some : 16 ≤ span
  pub fits : 16 + len ≤ span
  pub within : at + span ≤ length xs
  pub walk : IsWalk xs (at + span) others

-- no gap is left before the first block
walk_past : (xs : List ℕ) (at next : ℕ) (rest : List Block) → IsWalk xs at rest → next ≡ start_of (length xs) rest → IsWalk xs next rest
walk_past xs at next [] walk is = record { even = omega (arith, is, walk.whole); whole = walk.whole; small = walk.small; cells = (omega arith, omega arith, λ some. absurd (omega arith)) }
walk_past xs at next (b ∷ bs) walk is = record {
  even = omega (arith, is, walk.cells.0, walk.cells.2.1);
  whole = walk.whole;
  small = walk.small;
  cells = (omega (arith, is, walk.cells.0), (omega arith, omega arith, λ some. absurd (omega arith)), walk.cells.2, walk.cells.3);
}

-- each cell is one of them
module _ (xs : List ℕ) (at span len : ℕ) (span_is : span ≡ big_number 4 (drop at xs)) (len_is : len ≡ big_number 4 (drop (at + 4) xs)) where
  gap_some : (rest : List Block) → IsWalk xs at rest → at < length xs → len ≡ 0 → at < start_of (length xs) rest
  gap_some [] walk before zero_len = before
  gap_some (b ∷ bs) walk before zero_len = elim (cases_lt at (b.place - 16)) [
    | inl some ↦ some
    | inr none ↦
        let start : b.place - 16 ≡ at = omega (arith, walk.cells.0) in
        let read : IsRead xs (b.place - 16) (16 + rounded (length b.bytes)) (length b.bytes) = block_read xs at b bs walk in
        let is : len ≡ length b.bytes = len_is ∙ ap (λ (k : ℕ). big_number 4 (drop (k + 4) xs)) (sym start) ∙ read.len_is in
        absurd (omega (arith, walk.cells.2.0))
  ]

  pub gap_cell : (rest : List Block) → IsWalk xs at rest → at < length xs → len ≡ 0 → IsGapCell xs at span rest
  gap_cell rest walk before zero_len =
      let ne : at ≢ length xs = λ e. absurd (omega (arith, e, before)) in
      let start : at + span ≡ start_of (length xs) rest = over_gap xs at span len span_is len_is rest walk ne zero_len in
      let on : IsWalk xs (at + span) rest = walk_past xs at (at + span) rest walk start in
      record { start = start; some = omega (arith, start, gap_some rest walk before zero_len, walk.even, on.even); within = AreCells-le xs (at + span) (length xs) rest on.cells; walk = on }

  pub block_cell : (rest : List Block) → IsWalk xs at rest → at < length xs → len ≢ 0 → IsBlockCell xs at span len rest
  block_cell [] walk before some_len = absurd (omega (arith, before, at_block xs at span len span_is len_is [] walk (λ e. absurd (omega (arith, e, before))) some_len))
  block_cell (b ∷ bs) walk before some_len =
      let start : at ≡ b.place - 16 = at_block xs at span len span_is len_is (b ∷ bs) walk (λ e. absurd (omega (arith, e, before))) some_len in
      let place : b.place ≡ at + 16 = omega (arith, start, walk.cells.0) in
      let read : IsRead xs (b.place - 16) (16 + rounded (length b.bytes)) (length b.bytes) = block_read xs at b bs walk in
      let wide : span ≡ 16 + rounded (length b.bytes) = span_is ∙ ap (λ (k : ℕ). big_number 4 (drop k xs)) start ∙ read.span_is in
      let long : len ≡ length b.bytes = len_is ∙ ap (λ (k : ℕ). big_number 4 (drop (k + 4) xs)) start ∙ read.len_is in
      let end : end_of b ≡ at + span = omega (arith, place, wide) in
      record {
        block = b;
        others = bs;
        is = refl;
        place = place;
        long = sym long;
        bytes = sym walk.cells.2.3 ∙ ap (λ (k : ℕ). part k (length b.bytes) xs) place ∙ ap (λ (k : ℕ). part (at + 16) k xs) (sym long);
        end = end;
        some = omega (arith, wide);
        fits = omega (arith, wide, long);
        within = omega (arith, end, AreCells-le xs (end_of b) (length xs) bs walk.cells.3);
        walk = subst (λ (k : ℕ). IsWalk xs k bs) end (walk_on xs at b bs walk);
      }

-- what was read where a cell begins
pub record IsCell (xs : List ℕ) (at span len : ℕ) : Type 0 where
  pub before : at < length xs
  pub span_is : span ≡ big_number 4 (drop at xs)
  pub len_is : len ≡ big_number 4 (drop (at + 4) xs)

pub read_cell : (xs ws : List ℕ) (at span len : ℕ) (rest : List Block) → IsWalk xs at rest → ws ≡ page_rest at xs → at < length xs → span ≡ big_number 4 ws → len ≡ big_number 4 (drop 4 ws) → IsCell xs at span len
read_cell xs ws at span len rest walk is before span_is len_is = record { before = before; span_is = span_is ∙ rest_span xs ws at is walk.even; len_is = len_is ∙ rest_len xs ws at is walk.even }

pub gap_here : (xs : List ℕ) (at span len : ℕ) (rest : List Block) → IsWalk xs at rest → IsCell xs at span len → len ≡ 0 → IsGapCell xs at span rest
gap_here xs at span len rest walk cell zero_len = gap_cell xs at span len cell.span_is cell.len_is rest walk cell.before zero_len

pub block_here : (xs : List ℕ) (at span len : ℕ) (rest : List Block) → IsWalk xs at rest → IsCell xs at span len → len ≢ 0 → IsBlockCell xs at span len rest
block_here xs at span len rest walk cell some_len = block_cell xs at span len cell.span_is cell.len_is rest walk cell.before some_len

-- where it ends, and that a block's bytes are within
pub cell_ends : (xs : List ℕ) (at span len : ℕ) (rest : List Block) → IsWalk xs at rest → IsCell xs at span len → (16 + len ≤ span) × (at + span ≤ length xs)
cell_ends xs at span len rest walk cell = elim (eqb_tells len 0) [
  | inl t ↦
      let gap : IsGapCell xs at span rest = gap_here xs at span len rest walk cell t.1 in
      (omega (arith, t.1, gap.some), gap.within)
  | inr f ↦
      let block : IsBlockCell xs at span len rest = block_here xs at span len rest walk cell f.1 in
      (block.fits, block.within)
]

-- the place that a gap ends at
pub start_even : (xs : List ℕ) (from at : ℕ) (rest : List Block) → IsWalk xs from rest → at ≡ start_of (length xs) rest → at % 16 ≡ 0
start_even xs from at rest walk is = (walk_past xs from at rest walk is).even

pub at_end : (xs : List ℕ) (from : ℕ) (rest : List Block) → IsWalk xs from rest → from ≡ length xs → from ≡ start_of (length xs) rest
at_end xs from [] walk is = is
at_end xs from (b ∷ bs) walk is =
    let le : end_of b ≤ length xs = AreCells-le xs (end_of b) (length xs) bs walk.cells.3 in
    absurd (omega (arith, walk.cells.0, walk.cells.2.0))

-- where a gap ends there is a head, or the end
pub start_within : (xs : List ℕ) (from at : ℕ) (rest : List Block) → IsWalk xs from rest → at ≡ start_of (length xs) rest → at ≢ length xs → at + 16 ≤ length xs
start_within xs from at [] walk is ne = absurd (ne is)
start_within xs from at (b ∷ bs) walk is ne =
    let le : end_of b ≤ length xs = AreCells-le xs (end_of b) (length xs) bs walk.cells.3 in
    omega (arith, walk.cells.0, walk.cells.2.0)

pub no_first : (xs : List ℕ) (from at : ℕ) (rest : List Block) → IsWalk xs from rest → at ≡ start_of (length xs) rest → at ≡ length xs → None ≡ first_of rest
no_first xs from at [] walk is end = refl
no_first xs from at (b ∷ bs) walk is end =
    let le : end_of b ≤ length xs = AreCells-le xs (end_of b) (length xs) bs walk.cells.3 in
    absurd (omega (arith, walk.cells.0, walk.cells.2.0))

found : (p q n m : ℕ) → p ≡ q → n ≡ m → (let f : Found = record { place = p; len = n } in Some f) ≡ (let f : Found = record { place = q; len = m } in Some f)
found p q n m e g = ap (λ (k : ℕ). let f : Found = record { place = k; len = n } in Some f) e ∙ ap (λ (k : ℕ). let f : Found = record { place = q; len = k } in Some f) g

pub first_found : (xs : List ℕ) (from at len : ℕ) (rest : List Block) → IsWalk xs from rest → at ≡ start_of (length xs) rest → at ≢ length xs → len ≡ big_number 4 (drop (at + 4) xs) → (let f : Found = record { place = at + 16; len = len } in Some f) ≡ first_of rest
first_found xs from at len [] walk is ne len_is = absurd (ne is)
first_found xs from at len (b ∷ bs) walk is ne len_is =
    let read : IsRead xs (b.place - 16) (16 + rounded (length b.bytes)) (length b.bytes) = block_read xs from b bs walk in
    found (at + 16) b.place len (length b.bytes) (omega (arith, walk.cells.0)) (len_is ∙ ap (λ (k : ℕ). big_number 4 (drop (k + 4) xs)) is ∙ read.len_is)

-- a block that was found is the first of the rest
pub record IsFirst (xs : List ℕ) (from : ℕ) (f : Found) (rest : List Block) : Type 0 where
  pub block : Block
  pub others : List Block
  pub is : rest ≡ block ∷ others
  pub place : f.place ≡ block.place
  pub len : f.len ≡ length block.bytes
  pub past : from + 16 ≤ f.place
  pub even : f.place % 16 ≡ 0
  pub some : 0 < f.len
  pub ends : f.place + rounded f.len ≤ length xs
  pub small : length xs < 2 ^ 32
  pub bytes : part f.place f.len xs ≡ block.bytes
  pub walk : IsWalk xs (f.place + rounded f.len) others

pub is_first : (xs : List ℕ) (from : ℕ) (f : Found) (rest : List Block) → IsWalk xs from rest → Some f ≡ first_of rest → IsFirst xs from f rest
is_first xs from f [] walk h = absurd cc
is_first xs from f (b ∷ bs) walk h =
    let same : f ≡ record { place = b.place; len = length b.bytes } = cc in
    let place : f.place ≡ b.place = ap (λ (g : Found). g.place) same in
    let len : f.len ≡ length b.bytes = ap (λ (g : Found). g.len) same in
    let end : end_of b ≡ f.place + rounded f.len = omega arith in
    let le : end_of b ≤ length xs = AreCells-le xs (end_of b) (length xs) bs walk.cells.3 in
    record {
      block = b;
      others = bs;
      is = refl;
      place = place;
      len = len;
      past = omega (arith, walk.cells.0);
      even = omega (arith, walk.cells.2.1);
      some = omega (arith, walk.cells.2.0);
      ends = omega arith;
      small = walk.small;
      bytes = ap (λ (k : ℕ). part k f.len xs) place ∙ ap (λ (k : ℕ). part b.place k xs) len ∙ walk.cells.2.3;
      walk = subst (λ (k : ℕ). IsWalk xs k bs) end (walk_on xs from b bs walk);
    }

before : (m n : ℕ) → m < n → ltb m n ≡ true
before m n less = elim (lt_cases m n) [
  | inl t ↦ t.0
  | inr f ↦ absurd (omega (arith, f.1, less))
]

-- no block is left
rest_empty : (rest : List Block) → None ≡ first_of rest → rest ≡ []
rest_empty [] h = refl
rest_empty (b ∷ bs) h = absurd cc

-- a search for a gap, as far as it has come
pub record IsSearch (xs : List ℕ) (n from : ℕ) (target : Option Gap) : Type 0 where
  pub rest : List Block
  pub walk : IsWalk xs from rest
  pub same : fit_from from (length xs) rest n ≡ target

-- a gap that it fits into
pub search_found : (xs : List ℕ) (n at span to : ℕ) (target : Option Gap) (s : IsSearch xs n at target) → IsGapCell xs at span s.rest → to ≡ at + span → 16 + rounded n ≤ span → (let g : Gap = record { from = at; to = to } in Some g) ≡ target
search_found xs n at span to target s cell is wide = ap (λ (k : ℕ). let g : Gap = record { from = at; to = k } in Some g) (is ∙ cell.start) ∙ sym (go s.rest cell.start s.walk) ∙ s.same
  where
    go : (rest : List Block) → at + span ≡ start_of (length xs) rest → IsWalk xs at rest → fit_from at (length xs) rest n ≡ (let g : Gap = record { from = at; to = start_of (length xs) rest } in Some g)
    go [] start walk = elim (lt_cases (length xs) (at + 16 + rounded n)) [
      | inl t ↦ absurd (omega (arith, t.1, start, wide))
      | inr f ↦ is_false (ltb (length xs) (at + 16 + rounded n)) _ _ f.0
    ]
    go (b ∷ bs) start walk = elim (lt_cases b.place (at + 32 + rounded n)) [
      | inl t ↦ absurd (omega (arith, t.1, start, wide, walk.cells.0))
      | inr f ↦ is_false (ltb b.place (at + 32 + rounded n)) _ _ f.0
    ]

-- a gap that is too narrow
search_gap : (xs : List ℕ) (n at span : ℕ) (target : Option Gap) (s : IsSearch xs n at target) → IsGapCell xs at span s.rest → span < 16 + rounded n → IsSearch xs n (at + span) target
search_gap xs n at span target s cell narrow = record { rest = s.rest; walk = cell.walk; same = go s.rest cell.start s.walk ∙ s.same }
  where
    go : (rest : List Block) → at + span ≡ start_of (length xs) rest → IsWalk xs at rest → fit_from (at + span) (length xs) rest n ≡ fit_from at (length xs) rest n
    go [] start walk = elim (lt_cases (length xs) (at + 16 + rounded n)) [
      | inl t ↦ is_true (ltb (length xs) (at + span + 16 + rounded n)) _ _ (before (length xs) (at + span + 16 + rounded n) (omega (arith, start))) ∙ sym (is_true (ltb (length xs) (at + 16 + rounded n)) _ _ t.0)
      | inr f ↦ absurd (omega (arith, f.1, start, narrow))
    ]
    go (b ∷ bs) start walk = elim (lt_cases b.place (at + 32 + rounded n)) [
      | inl t ↦ is_true (ltb b.place (at + span + 32 + rounded n)) _ _ (before b.place (at + span + 32 + rounded n) (omega (arith, start))) ∙ sym (is_true (ltb b.place (at + 32 + rounded n)) _ _ t.0)
      | inr f ↦ absurd (omega (arith, f.1, start, narrow, walk.cells.0))
    ]

-- a block, right where the search is
search_block : (xs : List ℕ) (n at span len : ℕ) (target : Option Gap) (s : IsSearch xs n at target) → IsBlockCell xs at span len s.rest → IsSearch xs n (at + span) target
search_block xs n at span len target s cell = record {
  rest = cell.others;
  walk = cell.walk;
  same =
      ap (λ (k : ℕ). fit_from k (length xs) cell.others n) (sym cell.end) ∙ sym (is_true (ltb cell.block.place (at + 32 + rounded n)) _ _ (before cell.block.place (at + 32 + rounded n) (omega (arith, cell.place))))
      ∙ ap (λ (l : List Block). fit_from at (length xs) l n) (sym cell.is) ∙ s.same;
}

-- a cell further, where none was found
pub search_on : (xs : List ℕ) (n at span len : ℕ) (target : Option Gap) (s : IsSearch xs n at target) → IsCell xs at span len → (len ≡ 0 → span < 16 + rounded n) → IsSearch xs n (at + span) target
search_on xs n at span len target s cell narrow = elim (eqb_tells len 0) [
  | inl t ↦ search_gap xs n at span target s (gap_here xs at span len s.rest s.walk cell t.1) (narrow t.1)
  | inr f ↦ search_block xs n at span len target s (block_here xs at span len s.rest s.walk cell f.1)
]

-- at the end nothing is left to search
pub search_end : (xs : List ℕ) (n at : ℕ) (target : Option Gap) (s : IsSearch xs n at target) → length xs ≤ at → None ≡ target
search_end xs n at target s end = sym (go s.rest s.walk) ∙ s.same
  where
    go : (rest : List Block) → IsWalk xs at rest → fit_from at (length xs) rest n ≡ None
    go [] walk = is_true (ltb (length xs) (at + 16 + rounded n)) _ _ (before (length xs) (at + 16 + rounded n) (omega (arith, end)))
    go (b ∷ bs) walk = absurd (omega (arith, end, walk.cells.0, walk.cells.2.0, AreCells-le xs (end_of b) (length xs) bs walk.cells.3))

-- nothing fits that is larger than the heap
pub none_fits : (xs : List ℕ) (n from : ℕ) (rest : List Block) → IsWalk xs from rest → length xs < n → None ≡ fit_from from (length xs) rest n
none_fits xs n from [] walk big = elim (lt_cases (length xs) (from + 16 + rounded n)) [
  | inl t ↦ sym (is_true (ltb (length xs) (from + 16 + rounded n)) _ _ t.0)
  | inr f ↦ absurd (omega (arith, f.1))
]
none_fits xs n from (b ∷ bs) walk big =
    let le : end_of b ≤ length xs = AreCells-le xs (end_of b) (length xs) bs walk.cells.3 in
    elim (lt_cases b.place (from + 32 + rounded n)) [
      | inl t ↦ none_fits xs n (end_of b) bs (walk_on xs from b bs walk) big ∙ sym (is_true (ltb b.place (from + 32 + rounded n)) _ _ t.0)
      | inr f ↦ absurd (omega (arith, f.1))
    ]

-- a search for a block, as far as it has come: the last block ends at `from`
pub record IsHunt (xs : List ℕ) (place from at : ℕ) (target : Option Gap) : Type 0 where
  pub rest : List Block
  pub walk : IsWalk xs at rest
  pub same : hole_from from (length xs) place rest ≡ target

-- a gap further
pub hunt_gap : (xs : List ℕ) (place from at span : ℕ) (target : Option Gap) (s : IsHunt xs place from at target) → IsGapCell xs at span s.rest → IsHunt xs place from (at + span) target
hunt_gap xs place from at span target s cell = record { rest = s.rest; walk = cell.walk; same = s.same }

-- a block further, which is another
pub hunt_on : (xs : List ℕ) (place from at span len : ℕ) (target : Option Gap) (s : IsHunt xs place from at target) → IsBlockCell xs at span len s.rest → at + 16 ≢ place → IsHunt xs place (at + span) (at + span) target
hunt_on xs place from at span len target s cell ne = record {
  rest = cell.others;
  walk = cell.walk;
  same = ap (λ (k : ℕ). hole_from k (length xs) place cell.others) (sym cell.end) ∙ sym (passed (eqb_tells cell.block.place place)) ∙ ap (λ (l : List Block). hole_from from (length xs) place l) (sym cell.is) ∙ s.same;
}
  where
    passed : ((eqb cell.block.place place ≡ true) × (cell.block.place ≡ place)) ⊎ ((eqb cell.block.place place ≡ false) × (cell.block.place ≢ place)) → hole_from from (length xs) place (cell.block ∷ cell.others) ≡ hole_from (end_of cell.block) (length xs) place cell.others
    passed (inl t) = absurd (ne (sym cell.place ∙ t.1))
    passed (inr f) = is_false (eqb cell.block.place place) _ _ f.0

pub hunt_found : (xs : List ℕ) (place from at span len : ℕ) (target : Option Gap) (s : IsHunt xs place from at target) (cell : IsBlockCell xs at span len s.rest) (to : ℕ) → at + 16 ≡ place → to ≡ start_of (length xs) cell.others → (let g : Gap = record { from = from; to = to } in Some g) ≡ target
hunt_found xs place from at span len target s cell to eq is =
    ap (λ (k : ℕ). let g : Gap = record { from = from; to = k } in Some g) is ∙ sym (here (eqb_tells cell.block.place place)) ∙ ap (λ (l : List Block). hole_from from (length xs) place l) (sym cell.is) ∙ s.same
  where
    here : ((eqb cell.block.place place ≡ true) × (cell.block.place ≡ place)) ⊎ ((eqb cell.block.place place ≡ false) × (cell.block.place ≢ place)) → hole_from from (length xs) place (cell.block ∷ cell.others) ≡ (let g : Gap = record { from = from; to = start_of (length xs) cell.others } in Some g)
    here (inl t) = is_true (eqb cell.block.place place) _ _ t.0
    here (inr f) = absurd (f.1 (cell.place ∙ eq))

-- at the end no block is left
none_left : (xs : List ℕ) (at : ℕ) (rest : List Block) → IsWalk xs at rest → length xs ≤ at → rest ≡ []
none_left xs at [] walk end = refl
none_left xs at (b ∷ bs) walk end = absurd (omega (arith, end, walk.cells.0, walk.cells.2.0, AreCells-le xs (end_of b) (length xs) bs walk.cells.3))

pub hunt_end : (xs : List ℕ) (place from at : ℕ) (target : Option Gap) (s : IsHunt xs place from at target) → length xs ≤ at → None ≡ target
hunt_end xs place from at target s end = ap (λ (l : List Block). hole_from from (length xs) place l) (sym (none_left xs at s.rest s.walk end)) ∙ s.same

-- a copy of the blocks, as far as it has come
pub record IsCopied (xs : List ℕ) (from : ℕ) (copies target : List Block) : Type 0 where
  pub rest : List Block
  pub walk : IsWalk xs from rest
  pub same : copies ++ rest ≡ target

pub copy_more : (xs : List ℕ) (from : ℕ) (copies target : List Block) (s : IsCopied xs from copies target) (f : Found) (first : IsFirst xs from f s.rest) (b : Block) → b ≡ (let c : Block = record { place = f.place; bytes = part f.place f.len xs } in c) → IsCopied xs (f.place + rounded f.len) (copies ++ b ∷ []) target
copy_more xs from copies target s f first b is =
    let same : b ≡ first.block = is ∙ ap (λ (k : ℕ). let c : Block = record { place = k; bytes = part f.place f.len xs } in c) first.place ∙ ap (λ (ws : List ℕ). let c : Block = record { place = first.block.place; bytes = ws } in c) first.bytes in
    record {
      rest = first.others;
      walk = first.walk;
      same = append_assoc copies (b ∷ []) first.others ∙ ap (λ (c : Block). copies ++ c ∷ first.others) same ∙ ap (λ (l : List Block). copies ++ l) (sym first.is) ∙ s.same;
    }

pub copy_end : (xs : List ℕ) (from : ℕ) (copies target : List Block) (s : IsCopied xs from copies target) → None ≡ first_of s.rest → copies ≡ target
copy_end xs from copies target s h =
    sym (append-nil copies) ∙ ap (λ (l : List Block). copies ++ l) (sym (rest_empty s.rest h)) ∙ s.same

-- a search for a front, as far as it has come
pub record IsQuest (xs key : List ℕ) (behind at : ℕ) (target : Option ℕ) : Type 0 where
  pub rest : List Block
  pub walk : IsWalk xs at rest
  pub same : place_of_front key behind rest ≡ target

-- no block has no byte
no_front : (key : List ℕ) (behind : ℕ) → has_front key behind [] ≡ false
no_front [] behind = refl
no_front (k ∷ ks) behind = refl

-- a cell further, which is a gap or a block with another front
pub quest_on : (xs key : List ℕ) (behind at span len : ℕ) (target : Option ℕ) (q : IsQuest xs key behind at target) → IsCell xs at span len → has_front key behind (part (at + 16) len xs) ≡ false → IsQuest xs key behind (at + span) target
quest_on xs key behind at span len target q cell other = elim (eqb_tells len 0) [
  | inl t ↦ record { rest = q.rest; walk = (gap_here xs at span len q.rest q.walk cell t.1).walk; same = q.same }
  | inr f ↦
      let block : IsBlockCell xs at span len q.rest = block_here xs at span len q.rest q.walk cell f.1 in
      record {
        rest = block.others;
        walk = block.walk;
        same =
            sym (is_false (has_front key behind block.block.bytes) (Some block.block.place) (place_of_front key behind block.others) (ap (has_front key behind) block.bytes ∙ other))
            ∙ ap (λ (l : List Block). place_of_front key behind l) (sym block.is) ∙ q.same;
      }
]

-- a block with that front
pub quest_found : (xs key : List ℕ) (behind at span len : ℕ) (target : Option ℕ) (q : IsQuest xs key behind at target) → IsCell xs at span len → has_front key behind (part (at + 16) len xs) ≡ true → Some (at + 16) ≡ target
quest_found xs key behind at span len target q cell is = elim (eqb_tells len 0) [
  | inl t ↦ absurd (true≢false (sym is ∙ ap (λ (n : ℕ). has_front key behind (part (at + 16) n xs)) t.1 ∙ no_front key behind))
  | inr f ↦
      let block : IsBlockCell xs at span len q.rest = block_here xs at span len q.rest q.walk cell f.1 in
      ap (λ (n : ℕ). Some n) (sym block.place) ∙ sym (is_true (has_front key behind block.block.bytes) (Some block.block.place) (place_of_front key behind block.others) (ap (has_front key behind) block.bytes ∙ is))
      ∙ ap (λ (l : List Block). place_of_front key behind l) (sym block.is) ∙ q.same
]

pub quest_end : (xs key : List ℕ) (behind at : ℕ) (target : Option ℕ) (q : IsQuest xs key behind at target) → length xs ≤ at → None ≡ target
quest_end xs key behind at target q end = ap (λ (l : List Block). place_of_front key behind l) (sym (none_left xs at q.rest q.walk end)) ∙ q.same
