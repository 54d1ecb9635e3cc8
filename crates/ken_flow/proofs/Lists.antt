-- Sums over lists, and what stands in lists.
use Rattle.std.proofs.Common.{◌≡◌, ℕ, zero, suc, ◌<◌, ◌≤◌, ◌⊎◌, inl, inr, Bool, true, false, List, [], ◌∷◌, Contains, map, sum_by, refl, ap, ◌∙◌, subst, ⊎_elim, arith, zero-add, slice_index_or, slice_set, if◌then◌else◌}
use Rattle.std.specs.List.{AllByRecursion, range_with_len, filter}
use Rattle.std.proofs.lemmas.List.FromFn.{length-range_with_len, get_or-range_with_len}
use Rattle.std.proofs.lemmas.List.Sums.{sum_by-cons}
use Rattle.ken_net.proofs.Origins.{first_in, later_in, in_front}

module _ {X : Type 0} (f h : X → ℕ) where
  -- no sum rises where no term does
  pub sum_falls : (xs : List X) → ((x : X) → Contains xs x → f x ≤ h x) → sum_by f xs ≤ sum_by h xs
  sum_falls [] each = omega arith
  sum_falls (x ∷ xs) each =
      let here : f x ≤ h x = each x (first_in x xs) in
      let rest : sum_by f xs ≤ sum_by h xs = sum_falls xs (λ y one. each y (later_in x xs y one)) in
      omega (arith, sum_by-cons f x xs, sum_by-cons h x xs)

  -- and where the sum doesn't fall, no term does
  pub sum_stays : (xs : List X) → ((x : X) → Contains xs x → f x ≤ h x) → sum_by h xs ≤ sum_by f xs → (x : X) → Contains xs x → h x ≤ f x
  sum_stays [] each same x (k, low, is) = absurd (omega (arith, low))
  sum_stays (y ∷ ys) each same x one =
      let here : f y ≤ h y = each y (first_in y ys) in
      let rest : sum_by f ys ≤ sum_by h ys = sum_falls ys (λ z there. each z (later_in y ys z there)) in
      let first : h y ≤ f y = omega (arith, sum_by-cons f y ys, sum_by-cons h y ys) in
      let later : sum_by h ys ≤ sum_by f ys = omega (arith, sum_by-cons f y ys, sum_by-cons h y ys) in
      ⊎_elim
      (λ (is : y ≡ x). subst (λ (z : X). h z ≤ f z) is first)
      (λ there. sum_stays ys (λ z on. each z (later_in y ys z on)) later x there)
      (in_front y ys x one)

-- what is so of each element is so of all
pub by_each : {X : Type 0} (P : X → Type 0) (xs : List X) → ((x : X) → Contains xs x → P x) → AllByRecursion P xs
by_each P [] each = tt
by_each P (x ∷ xs) each = (each x (first_in x xs), by_each P xs (λ y one. each y (later_in x xs y one)))

pub of_each : {X : Type 0} (P : X → Type 0) (xs : List X) → AllByRecursion P xs → (x : X) → Contains xs x → P x
of_each P [] all x (k, low, is) = absurd (omega (arith, low))
of_each P (y ∷ ys) all x one = ⊎_elim (λ (is : y ≡ x). subst P is all.0) (λ on. of_each P ys all.1 x on) (in_front y ys x one)

pub map_in : {X Y : Type 0} (f : X → Y) (xs : List X) (x : X) → Contains xs x → Contains (map f xs) (f x)
map_in f [] x (k, low, is) = absurd (omega (arith, low))
map_in f (y ∷ ys) x one = ⊎_elim
    (λ (is : y ≡ x). subst (λ z. Contains (f y ∷ map f ys) z) (ap f is) (first_in (f y) (map f ys)))
    (λ on. later_in (f y) (map f ys) (f x) (map_in f ys x on))
    (in_front y ys x one)

pub in_map : {X Y : Type 0} (f : X → Y) (xs : List X) (y : Y) → Contains (map f xs) y → (x : X) × Contains xs x × (f x ≡ y)
in_map f [] y (k, low, is) = absurd (omega (arith, low))
in_map f (x ∷ xs) y there = elim (in_front (f x) (map f xs) y there) [
  | inl is ↦ (x, first_in x xs, is)
  | inr on ↦ let found = in_map f xs y on in (found.0, later_in x xs found.0 found.1, found.2)
]

-- the numbers below n
pub is_below : (n x : ℕ) → Contains (range_with_len 0 n) x → x < n
is_below n x (k, low, is) =
    let few : k < n = omega (arith, low, length-range_with_len 0 n) in
    omega (arith, is, get_or-range_with_len 0 n k x few)

pub below_is : (n x : ℕ) → x < n → Contains (range_with_len 0 n) x
below_is n x low = (x, omega (arith, length-range_with_len 0 n), get_or-range_with_len 0 n x x low ∙ zero-add x)

module _ (f h : ℕ → ℕ) (n : ℕ) (each : (x : ℕ) → x < n → f x ≤ h x) where
  pub sum_below_falls : sum_by f (range_with_len 0 n) ≤ sum_by h (range_with_len 0 n)
  sum_below_falls = sum_falls f h (range_with_len 0 n) (λ x one. each x (is_below n x one))

  pub sum_below_stays : sum_by h (range_with_len 0 n) ≤ sum_by f (range_with_len 0 n) → (x : ℕ) → x < n → h x ≤ f x
  sum_below_stays same x low = sum_stays f h (range_with_len 0 n) (λ y one. each y (is_below n y one)) same x (below_is n x low)

-- a list after one write: the element that was written, or what was there
pub set_cases : {A : Type 0} (xs : List A) (i : ℕ) (y : A) (j : ℕ) (d : A) → ((i ≡ j) × (slice_index_or (slice_set xs i y) j d ≡ y)) ⊎ (slice_index_or (slice_set xs i y) j d ≡ slice_index_or xs j d)
set_cases [] i y j d = inr refl
set_cases (x ∷ xs) zero y zero d = inl (refl, refl)
set_cases (x ∷ xs) zero y (suc j) d = inr refl
set_cases (x ∷ xs) (suc i) y zero d = inr refl
set_cases (x ∷ xs) (suc i) y (suc j) d = elim (set_cases xs i y j d) [
  | inl same ↦ inl (ap (λ (n : ℕ). suc n) same.0, same.1)
  | inr other ↦ inr other
]

-- one more element in front, where it passes
pub filter_yes : {X : Type 0} (p : X → Bool) (x : X) (xs : List X) → p x ≡ true → filter p (x ∷ xs) ≡ x ∷ filter p xs
filter_yes p x xs e = rw e refl

pub filter_no : {X : Type 0} (p : X → Bool) (x : X) (xs : List X) → p x ≡ false → filter p (x ∷ xs) ≡ filter p xs
filter_no p x xs e = rw e refl

-- what a test chooses
pub if_yes : {A : Type 0} (b : Bool) (x y : A) → b ≡ true → (if b then x else y) ≡ x
if_yes b x y e = rw e refl

pub if_no : {A : Type 0} (b : Bool) (x y : A) → b ≡ false → (if b then x else y) ≡ y
if_no b x y e = rw e refl
