-- A header is read from its 31 bytes, whatever follows them.
use Rattle.std.proofs.Common.{◌≡◌, ℕ, zero, suc, ◌+◌, ◌*◌, ◌^◌, ◌≤◌, List, length, take, drop, get_or, ltb, Bool, true, false, refl, ap, ◌∙◌, arith, length-take, Option, Some, None}
use Rattle.std.specs.Prelude.{if◌then◌else◌}
use Rattle.std.proofs.lemmas.List.{drop-take, get_or-take}
use Rattle.std.proofs.lemmas.Bool.Decides.{nat_tests}
use Rattle.byteorder.specs.Endian.{big_from}
use Rattle.ken_record.specs.declared.header.Header.{Header}
use Rattle.ken_record.specs.Reading.{◌>>=◌, number_at, seq, made, mark_at, place_at, past_at, header_at}
use Rattle.ken_store.specs.Logs.{front_from}

-- a number, by its bytes alone
big_from-take : (i n k : ℕ) (xs : List ℕ) → i + n ≤ k → big_from i n (take k xs) ≡ big_from i n xs
big_from-take i zero k xs le = refl
big_from-take i (suc n) k xs le =
    ap (λ (x : ℕ). x * 256 ^ n + big_from (suc i) n (take k xs)) (get_or-take k xs i 0 (omega (arith, le)))
    ∙ ap (λ (y : ℕ). get_or xs i 0 * 256 ^ n + y) (big_from-take (suc i) n k xs (omega (arith, le)))

-- a value that is read, with fewer bytes after it
cut : {A : Type 0} → ℕ → Option (A × List ℕ) → Option (A × List ℕ)
cut m None = None
cut m (Some x) = Some (x.0, take m x.1)

-- a reader looks at no more than so many bytes
record IsLocal {A : Type 0} (reads : List ℕ → Option (A × List ℕ)) (w : ℕ) : Type 0 where
  same : (m : ℕ) (xs : List ℕ) → reads (take (w + m) xs) ≡ cut m (reads xs)

short_same : (w m : ℕ) (xs : List ℕ) → ltb (length (take (w + m) xs)) w ≡ ltb (length xs) w
short_same w m xs = grind (arith, nat_tests, length-take (w + m) xs)

number_local : (w : ℕ) → IsLocal (number_at w) w
unfolding number_at cut
number_local w = record {
  same = λ m xs.
      ap (λ (b : Bool). if b then None else Some (big_from 0 w (take (w + m) xs), drop w (take (w + m) xs))) (short_same w m xs)
      ∙ by_test (ltb (length xs) w) m xs;
}
  where
    by_test : (b : Bool) (m : ℕ) (xs : List ℕ) → (if b then None else Some (big_from 0 w (take (w + m) xs), drop w (take (w + m) xs))) ≡ cut m (if b then None else Some (big_from 0 w xs, drop w xs))
    by_test true m xs = refl
    by_test false m xs =
        ap (λ (n : ℕ). Some (n, drop w (take (w + m) xs))) (big_from-take 0 w (w + m) xs (omega arith))
        ∙ ap (λ (l : List ℕ). Some (big_from 0 w xs, l)) (drop-take w m xs)

module _ {A B : Type 0} (first : List ℕ → Option (A × List ℕ)) (second : List ℕ → Option (B × List ℕ)) (w v : ℕ) (one : IsLocal first w) (two : IsLocal second v) where
  -- what follows the first
  abbrev behind : Option (A × List ℕ) → Option ((A × B) × List ℕ)
  behind o = o >>= λ a. second a.1 >>= λ b. Some ((a.0, b.0), b.1)

  abbrev joined : A → Option (B × List ℕ) → Option ((A × B) × List ℕ)
  joined x o = o >>= λ b. Some ((x, b.0), b.1)

  joined_cut : (x : A) (m : ℕ) (o : Option (B × List ℕ)) → joined x (cut m o) ≡ cut m (joined x o)
  unfolding cut
  joined_cut x m None = refl
  joined_cut x m (Some b) = refl

  behind_cut : (m : ℕ) (o : Option (A × List ℕ)) → behind (cut (v + m) o) ≡ cut m (behind o)
  unfolding cut
  behind_cut m None = refl
  behind_cut m (Some a) = ap (joined a.0) (two.same m a.1) ∙ joined_cut a.0 m (second a.1)

  seq_local : IsLocal (seq first second) (w + v)
  seq_local = record {
    same = λ m xs.
        let grouped : w + v + m ≡ w + (v + m) = omega arith in
        ap (λ (k : ℕ). behind (first (take k xs))) grouped ∙ ap behind (one.same (v + m) xs) ∙ behind_cut m (first xs);
  }

module _ {A B : Type 0} (test : A → Bool) (make : A → B) (reads : List ℕ → Option (A × List ℕ)) (w : ℕ) (one : IsLocal reads w) where
  abbrev tested : Option (A × List ℕ) → Option (B × List ℕ)
  tested o = o >>= λ a. if test a.0 then Some (make a.0, a.1) else None

  passed_cut : (m : ℕ) (b : Bool) (x : B) (l : List ℕ) → (if b then Some (x, take m l) else None) ≡ cut m (if b then Some (x, l) else None)
  unfolding cut
  passed_cut m true x l = refl
  passed_cut m false x l = refl

  tested_cut : (m : ℕ) (o : Option (A × List ℕ)) → tested (cut m o) ≡ cut m (tested o)
  unfolding cut
  tested_cut m None = refl
  tested_cut m (Some a) = passed_cut m (test a.0) (make a.0) a.1

  made_local : IsLocal (made test make reads) w
  made_local = record { same = λ m xs. ap tested (one.same m xs) ∙ tested_cut m (reads xs) }

mark_local : IsLocal mark_at 5
unfolding mark_at
mark_local = seq_local (number_at 4) (number_at 1) 4 1 (number_local 4) (number_local 1)

place_local : IsLocal place_at 10
unfolding place_at
place_local =
    seq_local (number_at 1) (seq (number_at 1) (seq (number_at 4) (number_at 4))) 1 9 (number_local 1)
    (seq_local (number_at 1) (seq (number_at 4) (number_at 4)) 1 8 (number_local 1) (seq_local (number_at 4) (number_at 4) 4 4 (number_local 4) (number_local 4)))

past_local : IsLocal past_at 16
unfolding past_at
past_local = seq_local (number_at 8) (seq (number_at 4) (number_at 4)) 8 8 (number_local 8) (seq_local (number_at 4) (number_at 4) 4 4 (number_local 4) (number_local 4))

header_local : IsLocal header_at 31
unfolding header_at
header_local = made_local _ _ (seq mark_at (seq place_at past_at)) 31 (seq_local mark_at (seq place_at past_at) 5 26 mark_local (seq_local place_at past_at 10 16 place_local past_local))

cut_front : (m : ℕ) (o : Option (Header × List ℕ)) → front_from (cut m o) ≡ front_from o
unfolding cut
cut_front m None = refl
cut_front m (Some x) = refl

-- so the front of a log is that of all its bytes
pub front-take : (xs : List ℕ) → front_from (header_at (take 31 xs)) ≡ front_from (header_at xs)
front-take xs = ap front_from (header_local.same 0 xs) ∙ cut_front 0 (header_at xs)
