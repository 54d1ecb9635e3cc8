-- How far a text of lines is printed.
use Rattle.std.proofs.Common.{◌≡◌, ℕ, ◌+◌, ◌<◌, ◌≤◌, List, [], ◌∷◌, ◌++◌, Option, flat_map, drop, length, get_or, append_assoc, drop-cons, add-one, arith, refl, sym, ap, subst, ◌∙◌}
use Rattle.std.proofs.lemmas.Grind.{common_steps}
use Rattle.std.specs.Io.KnownBytes.{Appends}
use Rattle.std.proofs.KnownBytes.{Appends-nil, Appends-trans}
use Rattle.ken_io.specs.Transfers.{AppendsFront}
use Rattle.ken_model.specs.declared.values.Value.{Value}
use Rattle.ken_model.specs.Report.{heap_words, line, heap_lines}

-- the lines of items, each of which has a place from i on
pub lines_from : {X : Type 0} → (ℕ → X → List ℕ) → ℕ → List X → List ℕ
lines_from line_of i [] = []
lines_from line_of i (x ∷ xs) = line_of i x ++ lines_from line_of (i + 1) xs

pub flat_map-lines : {X : Type 0} (line_of : X → List ℕ) (i : ℕ) (xs : List X) → flat_map line_of xs ≡ lines_from (λ _ x. line_of x) i xs
unfolding lines_from
flat_map-lines line_of i [] = refl
flat_map-lines line_of i (x ∷ xs) = ap (λ l. line_of x ++ l) (flat_map-lines line_of (i + 1) xs)

pub heap_lines-lines : (i : ℕ) (values : List Value) → heap_lines i values ≡ lines_from (λ n v. line (heap_words n v)) i values
unfolding heap_lines lines_from
heap_lines-lines i [] = refl
heap_lines-lines i (v ∷ values) = ap (λ l. line (heap_words i v) ++ l) (heap_lines-lines (i + 1) values)

-- a sink has taken a front of the whole text; the lines of xs from place i on follow, and then a tail
pub record IsPrintedTo {X : Type 0} (line_of : ℕ → X → List ℕ) (xs : List X) (i : ℕ) (tail whole : List ℕ) (old now : Option (List ℕ)) : Type 0 where
  pub front : List ℕ
  pub parts : front ++ (lines_from line_of i (drop i xs) ++ tail) ≡ whole
  pub out : Appends old now front

lines_from-drop : {X : Type 0} (line_of : ℕ → X → List ℕ) (xs : List X) (i : ℕ) (d : X) → i < length xs → lines_from line_of i (drop i xs) ≡ line_of i (get_or xs i d) ++ lines_from line_of (i + 1) (drop (i + 1) xs)
unfolding lines_from
lines_from-drop line_of xs i d within = let next : drop i xs ≡ get_or xs i d ∷ drop (i + 1) xs = rw add-one (drop-cons xs i d within) in ap (lines_from line_of i) next

lines_from-none : {X : Type 0} (line_of : ℕ → X → List ℕ) (xs : List X) (i : ℕ) → length xs ≤ i → lines_from line_of i (drop i xs) ≡ []
unfolding lines_from
lines_from-none line_of xs i done = let none : drop i xs ≡ [] = grind (arith, common_steps) in ap (lines_from line_of i) none

pub IsPrintedTo-start : {X : Type 0} {line_of : ℕ → X → List ℕ} {xs ys : List X} {first tail whole : List ℕ} (old : Option (List ℕ)) → xs ≡ ys → first ≡ lines_from line_of 0 ys → whole ≡ first ++ tail → IsPrintedTo line_of xs 0 tail whole old old
IsPrintedTo-start {line_of = line_of} {tail = tail} old same lines parts = record {
  front = [];
  parts = ap (λ l. l ++ tail) (ap (lines_from line_of 0) same ∙ sym lines) ∙ sym parts;
  out = Appends-nil old;
}

module _ {X : Type 0} {line_of : ℕ → X → List ℕ} {xs : List X} {i : ℕ} {tail whole : List ℕ} {old mid : Option (List ℕ)} (so_far : IsPrintedTo line_of xs i tail whole old mid) where
  -- on to the next list
  pub IsPrintedTo-next : {Y : Type 0} {next_of : ℕ → Y → List ℕ} {ys zs : List Y} {first rest : List ℕ} → length xs ≤ i → ys ≡ zs → first ≡ lines_from next_of 0 zs → tail ≡ first ++ rest → IsPrintedTo next_of ys 0 rest whole old mid
  IsPrintedTo-next {next_of = next_of} {rest = rest} done same lines parts = record {
    front = so_far.front;
    parts =
        ap (λ l. so_far.front ++ l) (ap (λ l. l ++ rest) (ap (lines_from next_of 0) same ∙ sym lines) ∙ sym parts ∙ ap (λ l. l ++ tail) (sym (lines_from-none line_of xs i done)))
        ∙ so_far.parts;
    out = so_far.out;
  }

  -- the next line, what follows it, and what stands before both
  next_line : {x : X} (d : X) → i < length xs → x ≡ get_or xs i d → so_far.front ++ (line_of i x ++ (lines_from line_of (i + 1) (drop (i + 1) xs) ++ tail)) ≡ whole
  next_line {x} d within at =
      let after = lines_from line_of (i + 1) (drop (i + 1) xs) in
      ap (λ l. so_far.front ++ l) (sym (append_assoc (line_of i x) after tail) ∙ ap (λ l. l ++ tail) (ap (λ y. line_of i y ++ after) at ∙ sym (lines_from-drop line_of xs i d within)))
      ∙ so_far.parts

  -- the next line is out
  pub IsPrintedTo-more : {new : Option (List ℕ)} {x : X} (d : X) → i < length xs → x ≡ get_or xs i d → Appends mid new (line_of i x) → IsPrintedTo line_of xs (i + 1) tail whole old new
  IsPrintedTo-more {new} {x} d within at more = record {
    front = so_far.front ++ line_of i x;
    parts = append_assoc so_far.front (line_of i x) (lines_from line_of (i + 1) (drop (i + 1) xs) ++ tail) ∙ next_line d within at;
    out = Appends-trans old mid new so_far.front (line_of i x) so_far.out more;
  }

  -- a front of the next line, and so of the whole, is out
  pub IsPrintedTo-fault : {new : Option (List ℕ)} {x : X} (d : X) → i < length xs → x ≡ get_or xs i d → AppendsFront mid new (line_of i x) → AppendsFront old new whole
  IsPrintedTo-fault {new} d within at fault =
      let after = lines_from line_of (i + 1) (drop (i + 1) xs) ++ tail in
      record {
        front = so_far.front ++ fault.front;
        rest = fault.rest ++ after;
        parts =
            append_assoc so_far.front fault.front (fault.rest ++ after)
            ∙ ap (λ l. so_far.front ++ l) (sym (append_assoc fault.front fault.rest after) ∙ ap (λ l. l ++ after) fault.parts)
            ∙ next_line d within at;
        out = Appends-trans old mid new so_far.front fault.front so_far.out fault.out;
      }

  -- only the tail is left
  tail_is_left : length xs ≤ i → so_far.front ++ tail ≡ whole
  tail_is_left done = ap (λ l. so_far.front ++ (l ++ tail)) (sym (lines_from-none line_of xs i done)) ∙ so_far.parts

  -- after all lines the tail is out
  pub IsPrintedTo-end : (new : Option (List ℕ)) → length xs ≤ i → Appends mid new tail → Appends old new whole
  IsPrintedTo-end new done last = subst (Appends old new) (tail_is_left done) (Appends-trans old mid new so_far.front tail so_far.out last)

  -- or a front of it
  pub IsPrintedTo-end_fault : {new : Option (List ℕ)} → length xs ≤ i → AppendsFront mid new tail → AppendsFront old new whole
  IsPrintedTo-end_fault {new} done fault = record {
    front = so_far.front ++ fault.front;
    rest = fault.rest;
    parts = append_assoc so_far.front fault.front fault.rest ∙ ap (λ l. so_far.front ++ l) fault.parts ∙ tail_is_left done;
    out = Appends-trans old mid new so_far.front fault.front so_far.out fault.out;
  }
