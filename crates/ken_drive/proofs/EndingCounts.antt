-- Sums over the nodes of a run, and what is emitted node by node.
use Rattle.std.proofs.Common.{◌≡◌, ◌≢◌, ℕ, zero, suc, ◌+◌, ◌-◌, ◌<◌, ◌≤◌, ◌^◌, max, List, [], ◌∷◌, ◌++◌, length, slice_index_or, sum_by, refl, sym, ap, subst, ◌∙◌, ⊎_elim, arith, append-nil, eq-eqb, ne_eqb}
use Rattle.std.specs.List.{AllByRecursion, range_with_len}
use Rattle.std.proofs.lemmas.Bool.{cases_eq}
use Rattle.std.proofs.lemmas.List.{map-append}
use Rattle.std.proofs.lemmas.List.Elements.{filter-append}
use Rattle.std.proofs.lemmas.List.FromFn.{length-range_with_len, get_or-range_with_len}
use Rattle.std.proofs.lemmas.List.Sums.{sum_by-cons, sum_by-le-sum_by, get_or-le-sum_by}
use Rattle.std.proofs.lemmas.Option.{slice_get_within}
use Rattle.ken_model.specs.declared.messages.Out.{Out}
use Rattle.ken_model.specs.declared.reports.Emission.{Emission}
use Rattle.ken_model.specs.Emissions.{emitted_by, AreEmitted, largest_of, AreByNode}
use Rattle.ken_model.specs.Report.{IsOneLine}
use Rattle.ken_model.specs.Spelling.{IsWord, IsPrintableEmission}
use Rattle.ken_core.specs.Clusters.{emissions_by}
use Rattle.ken_drive.proofs.EndingPlayed.{all_append, all_at}

-- ---- sums

-- sums of the same numbers are the same
pub sum_by-same : {A : Type 0} (g h : A → ℕ) (xs : List A) → ((x : A) → g x ≡ h x) → sum_by g xs ≡ sum_by h xs
sum_by-same g h xs same = omega (arith, sum_by-le-sum_by g h xs (λ x. omega (arith, same x)), sum_by-le-sum_by h g xs (λ x. omega (arith, same x)))

-- of a sum that isn't 0 one number isn't
pub some_in_sum : {A : Type 0} (g : A → ℕ) (xs : List A) → 0 < sum_by g xs → (x : A) × (0 < g x)
some_in_sum g [] some = absurd (omega arith)
some_in_sum g (x ∷ xs) some =
    ⊎_elim
    (λ none. some_in_sum g xs (omega (arith, sum_by-cons g x xs)))
    (λ ne. (x, omega arith))
    (cases_eq (g x) 0)

-- what is summed for a number of a range is no more than the sum
pub in_range-le : (g : ℕ → ℕ) (n k : ℕ) → k < n → g k ≤ sum_by g (range_with_len 0 n)
in_range-le g n k lt =
    let at : slice_index_or (range_with_len 0 n) k 0 ≡ k = get_or-range_with_len 0 n k 0 lt ∙ omega arith in
    subst (λ i. g i ≤ sum_by g (range_with_len 0 n)) at (get_or-le-sum_by g (range_with_len 0 n) k 0 (omega (arith, length-range_with_len 0 n)))

-- a sum in which one number grew by 1
sum-before : (h h2 : ℕ → ℕ) (x a n : ℕ) → ((k : ℕ) → k ≢ x → h2 k ≡ h k) → x < a → sum_by h2 (range_with_len a n) ≡ sum_by h (range_with_len a n)
sum-before h h2 x a zero same lt = refl
sum-before h h2 x a (suc n) same lt =
    let here : h2 a ≡ h a = same a (λ e. omega arith) in
    omega (arith, sum_by-cons h2 a (range_with_len (a + 1) n), sum_by-cons h a (range_with_len (a + 1) n), sum-before h h2 x (a + 1) n same (omega arith))

pub sum-one_more : (h h2 : ℕ → ℕ) (x a n : ℕ) → ((k : ℕ) → k ≢ x → h2 k ≡ h k) → h2 x ≡ h x + 1 → a ≤ x → x < a + n → sum_by h2 (range_with_len a n) ≡ sum_by h (range_with_len a n) + 1
sum-one_more h h2 x a zero same more from_a below = absurd (omega arith)
sum-one_more h h2 x a (suc n) same more from_a below =
    let parts = sum_by-cons h2 a (range_with_len (a + 1) n) in
    let parts2 = sum_by-cons h a (range_with_len (a + 1) n) in
    ⊎_elim
    (λ (e : x ≡ a). let here : h2 a ≡ h a + 1 = subst (λ k. h2 k ≡ h k + 1) e more in omega (arith, parts, parts2, sum-before h h2 x (a + 1) n same (omega arith)))
    (λ ne. let here : h2 a ≡ h a = same a (λ e. ne (sym e)) in omega (arith, parts, parts2, sum-one_more h h2 x (a + 1) n same more (omega arith) (omega arith)))
    (cases_eq x a)

-- ---- emissions node by node

-- what nodes emitted, from node v on
abbrev pub emissions_from : (ℕ → List Out) → ℕ → ℕ → List Emission
emissions_from outs v zero = []
emissions_from outs v (suc n) = emissions_by v (outs v) ++ emissions_from outs (v + 1) n

emitted_by-append : (v : ℕ) (xs ys : List Emission) → emitted_by v (xs ++ ys) ≡ emitted_by v xs ++ emitted_by v ys
emitted_by-append v xs ys = simp (filter-append, map-append)

emitted_by-own : (v : ℕ) (outs : List Out) → emitted_by v (emissions_by v outs) ≡ outs
emitted_by-own v [] = refl
emitted_by-own v (o ∷ os) = rw (eq-eqb v v refl) (ap (λ l. o ∷ l) (emitted_by-own v os))

emitted_by-others : (v w : ℕ) (outs : List Out) → ((w ≡ v) → ⊥) → emitted_by v (emissions_by w outs) ≡ []
emitted_by-others v w [] ne = refl
emitted_by-others v w (o ∷ os) ne = rw (ne_eqb w v ne) (emitted_by-others v w os ne)

emitted_by-later : (outs : ℕ → List Out) (v k n : ℕ) → v < k → emitted_by v (emissions_from outs k n) ≡ []
emitted_by-later outs v k zero lt = refl
emitted_by-later outs v k (suc n) lt = emitted_by-append v (emissions_by k (outs k)) _ ∙ ap (λ l. l ++ emitted_by v (emissions_from outs (k + 1) n)) (emitted_by-others v k (outs k) (λ e. omega arith)) ∙ emitted_by-later outs v (k + 1) n (omega arith)

-- the emissions of a node among those of all
pub emitted_by-from : (outs : ℕ → List Out) (v k n : ℕ) → k ≤ v → v < k + n → emitted_by v (emissions_from outs k n) ≡ outs v
emitted_by-from outs v k zero from_k below = absurd (omega arith)
emitted_by-from outs v k (suc n) from_k below =
    let parts = emitted_by-append v (emissions_by k (outs k)) (emissions_from outs (k + 1) n) in
    ⊎_elim
    (λ (e : k ≡ v). parts ∙ ap (λ l. l ++ emitted_by v (emissions_from outs (k + 1) n)) (subst (λ x. emitted_by x (emissions_by k (outs k)) ≡ outs x) e (emitted_by-own k (outs k))) ∙ ap (λ l. outs v ++ l) (emitted_by-later outs v (k + 1) n (omega arith)) ∙ append-nil (outs v))
    (λ ne. parts ∙ ap (λ l. l ++ emitted_by v (emissions_from outs (k + 1) n)) (emitted_by-others v k (outs k) ne) ∙ emitted_by-from outs v (k + 1) n (omega arith) (omega arith))
    (cases_eq k v)

by_node_sooner : (k j : ℕ) (es : List Emission) → j ≤ k → AreByNode k es → AreByNode j es
unfolding AreByNode
by_node_sooner k j [] le by = tt
by_node_sooner k j (e ∷ es) le by = (omega (arith, by.0), by.1)

by_node_after : (k : ℕ) (outs : List Out) (es : List Emission) → AreByNode k es → AreByNode k (emissions_by k outs ++ es)
unfolding AreByNode
by_node_after k [] es by = by
by_node_after k (o ∷ os) es by = (omega arith, by_node_after k os es by)

-- they stand node by node
pub AreByNode-from : (outs : ℕ → List Out) (k n : ℕ) → AreByNode k (emissions_from outs k n)
unfolding AreByNode
AreByNode-from outs k zero = tt
AreByNode-from outs k (suc n) = by_node_after k (outs k) _ (by_node_sooner (k + 1) k _ (omega arith) (AreByNode-from outs (k + 1) n))

-- what holds of each node's emissions holds of all
pub all-from : (P : Emission → Type 0) (outs : ℕ → List Out) (k n : ℕ) → ((v : ℕ) → k ≤ v → v < k + n → AllByRecursion P (emissions_by v (outs v))) → AllByRecursion P (emissions_from outs k n)
all-from P outs k zero each = tt
all-from P outs k (suc n) each = all_append P (emissions_by k (outs k)) _ (each k (omega arith) (omega arith)) (all-from P outs (k + 1) n (λ v from_k below. each v (omega arith) (omega arith)))

pub all-by : (P : Emission → Type 0) (v : ℕ) (os : List Out) → AllByRecursion (λ (o : Out). P (record { node = v; out = o })) os → AllByRecursion P (emissions_by v os)
all-by P v [] each = tt
all-by P v (o ∷ os) each = (each.0, all-by P v os each.1)

-- no number is past the outputs
pub largest-few : (outs : List (List ℕ)) (largest : ℕ) (os : List Out) → largest ≤ length outs → AreEmitted outs largest os → largest_of largest os ≤ length outs
unfolding AreEmitted
largest-few outs largest [] le legal = le
largest-few outs largest (o ∷ os) le legal = largest-few outs (max largest o.number) os (omega (arith, legal.0, slice_get_within outs (o.number - 1) o.text legal.2)) legal.3

-- emissions of outputs without line feeds can be printed
pub printable_by : (v : ℕ) (outs : List (List ℕ)) (largest : ℕ) (os : List Out) → IsWord v → length outs < 2 ^ 64 → AllByRecursion IsOneLine outs → AreEmitted outs largest os → AllByRecursion IsPrintableEmission (emissions_by v os)
unfolding AreEmitted
printable_by v outs largest [] word few lines legal = tt
printable_by v outs largest (o ∷ os) word few lines legal = (
  record { node = word; number = omega (arith, few, slice_get_within outs (o.number - 1) o.text legal.2); text = all_at IsOneLine outs (o.number - 1) o.text lines legal.2 },
  printable_by v outs (max largest o.number) os word few lines legal.3,
)
