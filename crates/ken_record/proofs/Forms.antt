-- A form: a spelling, what fits it, and a reader of it. What is read fits and stands there as it is spelled, and what
-- fits is read again, whatever follows it.
use Rattle.std.proofs.Common.{◌≡◌, ℕ, zero, suc, ◌+◌, ◌≤◌, ◌<◌, ◌^◌, Bool, true, false, cond, ltb, ◌==◌, List, [], ◌∷◌, ◌++◌, length, get_or, take, drop, Option, Some, None, refl, sym, ap, subst, ◌∙◌, append_assoc, arith, inl, inr}
use Rattle.std.specs.List.{flat_map, AllByRecursion}
use Rattle.std.proofs.lemmas.Bool.{cases_lt, ltb-false, le-ltb, eqb-true}
use Rattle.std.proofs.lemmas.List.{append-nil, nil_from_length, take_at, drop_at, take-append-drop, length-append, length-take, get_or-drop, get_or-take, get_or_past}
use Rattle.std.proofs.lemmas.List.Concat.{flat_map-cons}
use Rattle.std.proofs.lemmas.List.{length-take-le}
use Rattle.std.specs.Int.{byte_at}
use Rattle.byteorder.specs.Endian.{big_number, big_bytes}
use Rattle.byteorder.specs.Numbers.{big_from-lt, big_from-take, big_number-reads_back, length-bytes_high_first}
use Rattle.ken_num.proofs.Again.{again_2, again_4, again_8}
use Rattle.ken_record.specs.Spelling.{number}
use Rattle.ken_record.specs.Reading.{◌>>=◌, number_at, part_at, seq, made, sized, items_at, within}

abbrev pub IsBytes : List ℕ → Type 0
IsBytes bytes = (i : ℕ) → get_or bytes i 0 < 256

pub IsBytes-drop : (n : ℕ) (bytes : List ℕ) → IsBytes bytes → IsBytes (drop n bytes)
IsBytes-drop n bytes h i = rw get_or-drop (h (n + i))

pub IsBytes-take : (n : ℕ) (bytes : List ℕ) → IsBytes bytes → IsBytes (take n bytes)
IsBytes-take n bytes h i =
    elim (cases_lt i n) [
      | inl lt ↦ rw (get_or-take n bytes i 0 lt) (h i)
      | inr le ↦ rw (get_or_past (take n bytes) i 0 (omega (arith, length-take n bytes))) (omega arith)
    ]

-- what a reader took from the front
pub record Took {A : Type 0} (spell : A → List ℕ) (fits : A → Type 0) (bytes : List ℕ) (x : A) (rest : List ℕ) : Type 0 where
  pub fit : fits x
  pub parts : bytes ≡ spell x ++ rest
  pub rest_bytes : IsBytes rest

pub record IsForm {A : Type 0} (spell : A → List ℕ) (fits : A → Type 0) (reads : List ℕ → Option (A × List ℕ)) : Type 0 where
  pub takes : (bytes : List ℕ) (x : A) (rest : List ℕ) → IsBytes bytes → reads bytes ≡ Some (x, rest) → Took spell fits bytes x rest
  pub again : (x : A) (rest : List ℕ) → fits x → reads (spell x ++ rest) ≡ Some (x, rest)

-- the value of a step that gave one
pub bind_some : {A B : Type 0} (r : Option A) (f : A → Option B) (y : B) → (r >>= f) ≡ Some y → (x : A) × (r ≡ Some x) × (f x ≡ Some y)
bind_some (Some x) f y e = (x, refl, e)
bind_some None f y e = absurd cc

-- a test that let a value through
pub if_none : {A : Type 0} (b : Bool) (x : Option A) (y : A) → cond b None x ≡ Some y → (b ≡ false) × (x ≡ Some y)
if_none true x y e = absurd cc
if_none false x y e = (refl, e)

pub if_some : {A : Type 0} (b : Bool) (x : Option A) (y : A) → cond b x None ≡ Some y → (b ≡ true) × (x ≡ Some y)
if_some true x y e = (refl, e)
if_some false x y e = absurd cc

abbrev some : {A : Type 0} → A → Option A
some x = Some x

pub some_is : {A : Type 0} (x y : A) → some x ≡ some y → x ≡ y
some_is x y e = cc

pub pair_is : {A B : Type 0} (a : A) (b : B) (x : A) (y : B) → some {A = A × B} (a, b) ≡ some {A = A × B} (x, y) → (a ≡ x) × (b ≡ y)
pair_is {A = A} {B = B} a b x y e =
    let same : ◌≡◌ {A = A × B} (a, b) (x, y) = some_is (a, b) (x, y) e in
    (ap (λ (p : A × B). p.0) same, ap (λ (p : A × B). p.1) same)

-- ---- one after the other

module _ {A B : Type 0} {spellA : A → List ℕ} {fitsA : A → Type 0} {readsA : List ℕ → Option (A × List ℕ)} {spellB : B → List ℕ} {fitsB : B → Type 0} {readsB : List ℕ → Option (B × List ℕ)} (first : IsForm spellA fitsA readsA) (second : IsForm spellB fitsB readsB) where
  seq_takes : (bytes : List ℕ) (x : A × B) (rest : List ℕ) → IsBytes bytes → seq readsA readsB bytes ≡ Some (x, rest) → Took (λ (x : A × B). spellA x.0 ++ spellB x.1) (λ (x : A × B). fitsA x.0 × fitsB x.1) bytes x rest
  seq_takes bytes x rest fits e =
      let a = bind_some (readsA bytes) (λ a. readsB a.1 >>= λ b. Some ((a.0, b.0), b.1)) (x, rest) e in
      let b = bind_some (readsB a.0.1) (λ b. Some ((a.0.0, b.0), b.1)) (x, rest) a.2 in
      let p = first.takes bytes a.0.0 a.0.1 fits a.1 in
      let q = second.takes a.0.1 b.0.0 b.0.1 p.rest_bytes b.1 in
      let same : ◌≡◌ {A = (A × B) × List ℕ} ((a.0.0, b.0.0), b.0.1) (x, rest) = some_is ((a.0.0, b.0.0), b.0.1) (x, rest) b.2 in
      let whole : Took (λ (x : A × B). spellA x.0 ++ spellB x.1) (λ (x : A × B). fitsA x.0 × fitsB x.1) bytes (a.0.0, b.0.0) b.0.1 = record {
        fit = (p.fit, q.fit);
        parts = p.parts ∙ ap (λ (t : List ℕ). spellA a.0.0 ++ t) q.parts ∙ sym (append_assoc (spellA a.0.0) (spellB b.0.0) b.0.1);
        rest_bytes = q.rest_bytes;
      } in
      subst (λ (y : (A × B) × List ℕ). Took (λ (x : A × B). spellA x.0 ++ spellB x.1) (λ (x : A × B). fitsA x.0 × fitsB x.1) bytes y.0 y.1) same whole

  seq_again : (x : A × B) (rest : List ℕ) → fitsA x.0 × fitsB x.1 → seq readsA readsB ((spellA x.0 ++ spellB x.1) ++ rest) ≡ Some (x, rest)
  seq_again x rest fits =
      ap (seq readsA readsB) (append_assoc (spellA x.0) (spellB x.1) rest) ∙ rw (first.again x.0 (spellB x.1 ++ rest) fits.0, second.again x.1 rest fits.1) refl

  pub seq_form : IsForm (λ (x : A × B). spellA x.0 ++ spellB x.1) (λ (x : A × B). fitsA x.0 × fitsB x.1) (seq readsA readsB)
  seq_form = record { takes = seq_takes; again = seq_again }

-- ---- another value made of it, where a test holds

module _ {A B : Type 0} {spell : A → List ℕ} {fits : A → Type 0} {reads : List ℕ → Option (A × List ℕ)} (form : IsForm spell fits reads)
    (test : A → Bool) (make : A → B) (parts : B → A) (good : B → Type 0)
    (makes : (a : A) → fits a → test a ≡ true → good (make a) × (parts (make a) ≡ a))
    (makes_again : (b : B) → good b → fits (parts b) × (test (parts b) ≡ true) × (make (parts b) ≡ b)) where
  made_takes : (bytes : List ℕ) (y : B) (rest : List ℕ) → IsBytes bytes → made test make reads bytes ≡ Some (y, rest) → Took (λ b. spell (parts b)) good bytes y rest
  made_takes bytes y rest are e =
      let a = bind_some (reads bytes) (λ a. cond (test a.0) (Some (make a.0, a.1)) None) (y, rest) e in
      let t = if_some (test a.0.0) (Some (make a.0.0, a.0.1)) (y, rest) a.2 in
      let same = pair_is (make a.0.0) a.0.1 y rest t.1 in
      let p = form.takes bytes a.0.0 a.0.1 are a.1 in
      let m = makes a.0.0 p.fit t.0 in
      record {
        fit = subst good same.0 m.0;
        parts = p.parts ∙ ap (λ (x : A). spell x ++ a.0.1) (sym m.1) ∙ ap (λ (b : B). spell (parts b) ++ a.0.1) same.0 ∙ ap (λ (t : List ℕ). spell (parts y) ++ t) same.1;
        rest_bytes = subst IsBytes same.1 p.rest_bytes;
      }

  made_again : (y : B) (rest : List ℕ) → good y → made test make reads (spell (parts y) ++ rest) ≡ Some (y, rest)
  made_again y rest fit =
      let m = makes_again y fit in
      rw (form.again (parts y) rest m.0, m.1, m.2) refl

  pub made_form : IsForm (λ b. spell (parts b)) good (made test make reads)
  made_form = record { takes = made_takes; again = made_again }

-- ---- the same values, told otherwise

module _ {A : Type 0} {spell : A → List ℕ} {fits good : A → Type 0} {reads : List ℕ → Option (A × List ℕ)} (form : IsForm spell fits reads) (to : (x : A) → fits x → good x) (back : (x : A) → good x → fits x) where
  fit_takes : (bytes : List ℕ) (x : A) (rest : List ℕ) → IsBytes bytes → reads bytes ≡ Some (x, rest) → Took spell good bytes x rest
  fit_takes bytes x rest are e =
      let p = form.takes bytes x rest are e in
      record { fit = to x p.fit; parts = p.parts; rest_bytes = p.rest_bytes }

  pub fit_form : IsForm spell good reads
  fit_form = record { takes = fit_takes; again = λ x rest fit. form.again x rest (back x fit) }

-- ---- numbers

module _ (w : ℕ) (back : (xs : List ℕ) → length xs ≡ w → ((i : ℕ) → i < w → get_or xs i 0 < 256) → big_bytes w (big_number w xs) ≡ xs) where
  number_takes : (bytes : List ℕ) (n : ℕ) (rest : List ℕ) → IsBytes bytes → number_at w bytes ≡ Some (n, rest) → Took (number w) (λ n. n < 256 ^ w) bytes n rest
  unfolding number number_at
  number_takes bytes n rest are e =
      let t = if_none (ltb (length bytes) w) (Some (big_number w bytes, drop w bytes)) (n, rest) e in
      let long : w ≤ length bytes = ltb-false _ _ t.0 in
      let same = pair_is (big_number w bytes) (drop w bytes) n rest t.1 in
      let less : big_number w bytes < 256 ^ w = big_from-lt 0 w bytes are in
      let front : big_bytes w (big_number w bytes) ≡ take w bytes = ap (big_bytes w) (sym (big_from-take 0 w w bytes (omega arith))) ∙ back (take w bytes) (length-take-le w bytes long) (λ i _. IsBytes-take w bytes are i) in
      record {
        fit = subst (λ (m : ℕ). m < 256 ^ w) same.0 less;
        parts = sym (take-append-drop w bytes) ∙ ap (λ (t : List ℕ). t ++ drop w bytes) (sym front) ∙ ap (λ (m : ℕ). big_bytes w m ++ drop w bytes) same.0 ∙ ap (λ (t : List ℕ). big_bytes w n ++ t) same.1;
        rest_bytes = subst IsBytes same.1 (IsBytes-drop w bytes are);
      }

  number_again : (n : ℕ) (rest : List ℕ) → n < 256 ^ w → number_at w (number w n ++ rest) ≡ Some (n, rest)
  unfolding number number_at
  number_again n rest less =
      let len : length (big_bytes w n) ≡ w = length-bytes_high_first w n in
      let long : ltb (length (big_bytes w n ++ rest)) w ≡ false = le-ltb _ _ (omega (arith, length-append (big_bytes w n) rest)) in
      rw (long, big_number-reads_back w n rest less, drop_at (big_bytes w n) rest w len) refl

  number_form_by : IsForm (number w) (λ n. n < 256 ^ w) (number_at w)
  number_form_by = record { takes = number_takes; again = number_again }

again_1 : (xs : List ℕ) → length xs ≡ 1 → ((i : ℕ) → i < 1 → get_or xs i 0 < 256) → big_bytes 1 (big_number 1 xs) ≡ xs
again_1 [] long bytes = absurd (omega (arith, long))
again_1 (a ∷ b ∷ xs) long bytes = absurd (omega (arith, long))
again_1 (a ∷ []) long bytes =
    let is : byte_at 0 (big_number 1 (a ∷ [])) ≡ a = omega (arith, bytes 0 (omega arith)) in
    rw is refl

pub number_1 : IsForm (number 1) (λ n. n < 2 ^ 8) (number_at 1)
number_1 = number_form_by 1 again_1

pub number_2 : IsForm (number 2) (λ n. n < 2 ^ 16) (number_at 2)
number_2 = number_form_by 2 again_2

pub number_4 : IsForm (number 4) (λ n. n < 2 ^ 32) (number_at 4)
number_4 = number_form_by 4 again_4

pub number_8 : IsForm (number 8) (λ n. n < 2 ^ 64) (number_at 8)
number_8 = number_form_by 8 again_8

-- ---- so many bytes

part_takes : (n : ℕ) (bytes x rest : List ℕ) → IsBytes bytes → part_at n bytes ≡ Some (x, rest) → Took (λ x. x) (λ x. length x ≡ n) bytes x rest
unfolding part_at
part_takes n bytes x rest are e =
    let t = if_none (ltb (length bytes) n) (Some (take n bytes, drop n bytes)) (x, rest) e in
    let long : n ≤ length bytes = ltb-false _ _ t.0 in
    let same = pair_is (take n bytes) (drop n bytes) x rest t.1 in
    record {
      fit = ap length (sym same.0) ∙ length-take-le n bytes long;
      parts = sym (take-append-drop n bytes) ∙ ap (λ (t : List ℕ). t ++ drop n bytes) same.0 ∙ ap (λ (t : List ℕ). x ++ t) same.1;
      rest_bytes = subst IsBytes same.1 (IsBytes-drop n bytes are);
    }

part_again : (n : ℕ) (x rest : List ℕ) → length x ≡ n → part_at n (x ++ rest) ≡ Some (x, rest)
unfolding part_at
part_again n x rest len =
    let long : ltb (length (x ++ rest)) n ≡ false = le-ltb _ _ (omega (arith, length-append x rest)) in
    rw (long, take_at x rest n len, drop_at x rest n len) refl

pub part_form : (n : ℕ) → IsForm (λ x. x) (λ x. length x ≡ n) (part_at n)
part_form n = record { takes = part_takes n; again = part_again n }

-- ---- so many items

module _ {A : Type 0} {spell : A → List ℕ} {fits : A → Type 0} {reads : List ℕ → Option (A × List ℕ)} (form : IsForm spell fits reads) where
  items_takes : (n : ℕ) (bytes : List ℕ) (xs : List A) (rest : List ℕ) → IsBytes bytes → items_at reads n bytes ≡ Some (xs, rest) → Took (flat_map spell) (λ xs. AllByRecursion fits xs × (length xs ≡ n)) bytes xs rest
  unfolding items_at
  items_takes zero bytes xs rest are e =
      subst (λ (y : List A × List ℕ). Took (flat_map spell) (λ xs. AllByRecursion fits xs × (length xs ≡ 0)) bytes y.0 y.1) (some_is ([], bytes) (xs, rest) e) (record { fit = (tt, refl); parts = refl; rest_bytes = are })
  items_takes (suc n) bytes xs rest are e =
      let a = bind_some (reads bytes) (λ first. items_at reads n first.1 >>= λ others. Some (first.0 ∷ others.0, others.1)) (xs, rest) e in
      let b = bind_some (items_at reads n a.0.1) (λ others. Some (a.0.0 ∷ others.0, others.1)) (xs, rest) a.2 in
      let p = form.takes bytes a.0.0 a.0.1 are a.1 in
      let q = items_takes n a.0.1 b.0.0 b.0.1 p.rest_bytes b.1 in
      let made : List A × List ℕ = (a.0.0 ∷ b.0.0, b.0.1) in
      let whole : Took (flat_map spell) (λ xs. AllByRecursion fits xs × (length xs ≡ suc n)) bytes (a.0.0 ∷ b.0.0) b.0.1 = record {
        fit = ((p.fit, q.fit.0), ap suc q.fit.1);
        parts = p.parts ∙ ap (λ (t : List ℕ). spell a.0.0 ++ t) q.parts ∙ sym (append_assoc (spell a.0.0) (flat_map spell b.0.0) b.0.1) ∙ ap (λ (t : List ℕ). t ++ b.0.1) (sym (flat_map-cons spell a.0.0 b.0.0));
        rest_bytes = q.rest_bytes;
      } in
      subst (λ (y : List A × List ℕ). Took (flat_map spell) (λ xs. AllByRecursion fits xs × (length xs ≡ suc n)) bytes y.0 y.1) (some_is made (xs, rest) b.2) whole

  items_again : (xs : List A) (rest : List ℕ) → AllByRecursion fits xs → items_at reads (length xs) (flat_map spell xs ++ rest) ≡ Some (xs, rest)
  unfolding items_at
  items_again [] rest fit = refl
  items_again (x ∷ xs) rest fit =
      let regrouped : flat_map spell (x ∷ xs) ++ rest ≡ spell x ++ (flat_map spell xs ++ rest) = ap (λ (t : List ℕ). t ++ rest) (flat_map-cons spell x xs) ∙ append_assoc (spell x) (flat_map spell xs) rest in
      ap (items_at reads (suc (length xs))) regrouped ∙ rw (form.again x (flat_map spell xs ++ rest) fit.0, items_again xs rest fit.1) refl

  pub items_form : (n : ℕ) → IsForm (flat_map spell) (λ xs. AllByRecursion fits xs × (length xs ≡ n)) (items_at reads n)
  items_form n = record { takes = items_takes n; again = λ xs rest fit. ap (λ (k : ℕ). items_at reads k (flat_map spell xs ++ rest)) (sym fit.1) ∙ items_again xs rest fit.0 }

-- ---- a number, and what is read by it

module _ {A : Type 0} {spell : A → List ℕ} {fits : A → Type 0} {reads : ℕ → List ℕ → Option (A × List ℕ)} (w most : ℕ) (wide : IsForm (number w) (λ n. n < 256 ^ w) (number_at w)) (room : most < 256 ^ w)
    (measure : A → ℕ) (forms : (n : ℕ) → IsForm spell (λ x. fits x × (measure x ≡ n)) (reads n)) where
  sized_takes : (bytes : List ℕ) (x : A) (rest : List ℕ) → IsBytes bytes → sized w most reads bytes ≡ Some (x, rest) → Took (λ x. number w (measure x) ++ spell x) (λ x. (measure x ≤ most) × fits x) bytes x rest
  sized_takes bytes x rest are e =
      let a = bind_some (number_at w bytes) (λ n. cond (ltb most n.0) None (reads n.0 n.1)) (x, rest) e in
      let t = if_none (ltb most a.0.0) (reads a.0.0 a.0.1) (x, rest) a.2 in
      let low : a.0.0 ≤ most = ltb-false _ _ t.0 in
      let p = wide.takes bytes a.0.0 a.0.1 are a.1 in
      let q = (forms a.0.0).takes a.0.1 x rest p.rest_bytes t.1 in
      record {
        fit = (subst (λ (k : ℕ). k ≤ most) (sym q.fit.1) low, q.fit.0);
        parts = p.parts ∙ ap (λ (t : List ℕ). number w a.0.0 ++ t) q.parts ∙ sym (append_assoc (number w a.0.0) (spell x) rest) ∙ ap (λ (k : ℕ). (number w k ++ spell x) ++ rest) (sym q.fit.1);
        rest_bytes = q.rest_bytes;
      }

  sized_again : (x : A) (rest : List ℕ) → (measure x ≤ most) × fits x → sized w most reads ((number w (measure x) ++ spell x) ++ rest) ≡ Some (x, rest)
  sized_again x rest fit =
      let low : ltb most (measure x) ≡ false = le-ltb _ _ fit.0 in
      ap (sized w most reads) (append_assoc (number w (measure x)) (spell x) rest) ∙ rw (wide.again (measure x) (spell x ++ rest) (omega arith), low, (forms (measure x)).again x rest (fit.1, refl)) refl

  pub sized_form : IsForm (λ x. number w (measure x) ++ spell x) (λ x. (measure x ≤ most) × fits x) (sized w most reads)
  sized_form = record { takes = sized_takes; again = sized_again }

-- ---- so many bytes, which are just what is read

module _ {A : Type 0} {spell : A → List ℕ} {fits : A → Type 0} {reads : List ℕ → Option (A × List ℕ)} (form : IsForm spell fits reads) where
  part_are : (bytes x rest : List ℕ) → IsBytes bytes → bytes ≡ x ++ rest → IsBytes x
  part_are bytes x rest are e = subst IsBytes (ap (take (length x)) e ∙ take_at x rest (length x) refl) (IsBytes-take (length x) bytes are)

  within_takes : (n : ℕ) (bytes : List ℕ) (x : A) (rest : List ℕ) → IsBytes bytes → within reads n bytes ≡ Some (x, rest) → Took spell (λ x. fits x × (length (spell x) ≡ n)) bytes x rest
  unfolding within
  within_takes n bytes x rest are e =
      let a = bind_some (part_at n bytes) (λ part. reads part.0 >>= λ x. cond (length x.1 == 0) (Some (x.0, part.1)) None) (x, rest) e in
      let b = bind_some (reads a.0.0) (λ x. cond (length x.1 == 0) (Some (x.0, a.0.1)) None) (x, rest) a.2 in
      let t = if_some (length b.0.1 == 0) (Some (b.0.0, a.0.1)) (x, rest) b.2 in
      let p = (part_form n).takes bytes a.0.0 a.0.1 are a.1 in
      let q = form.takes a.0.0 b.0.0 b.0.1 (part_are bytes a.0.0 a.0.1 are p.parts) b.1 in
      let none : b.0.1 ≡ [] = nil_from_length b.0.1 (eqb-true _ _ t.0) in
      let all : a.0.0 ≡ spell b.0.0 = q.parts ∙ ap (λ (t : List ℕ). spell b.0.0 ++ t) none ∙ append-nil (spell b.0.0) in
      let whole : Took spell (λ x. fits x × (length (spell x) ≡ n)) bytes b.0.0 a.0.1 = record {
        fit = (q.fit, sym (ap length all) ∙ p.fit);
        parts = p.parts ∙ ap (λ (t : List ℕ). t ++ a.0.1) all;
        rest_bytes = p.rest_bytes;
      } in
      subst (λ (y : A × List ℕ). Took spell (λ x. fits x × (length (spell x) ≡ n)) bytes y.0 y.1) (some_is (b.0.0, a.0.1) (x, rest) t.1) whole

  within_again : (x : A) (rest : List ℕ) → fits x → within reads (length (spell x)) (spell x ++ rest) ≡ Some (x, rest)
  unfolding within
  within_again x rest fit =
      let whole : reads (spell x) ≡ Some (x, []) = ap reads (sym (append-nil (spell x))) ∙ form.again x [] fit in
      rw ((part_form (length (spell x))).again (spell x) rest refl, whole) refl

  pub within_form : (n : ℕ) → IsForm spell (λ x. fits x × (length (spell x) ≡ n)) (within reads n)
  within_form n = record { takes = within_takes n; again = λ x rest fit. ap (λ (k : ℕ). within reads k (spell x ++ rest)) (sym fit.1) ∙ within_again x rest fit.0 }
