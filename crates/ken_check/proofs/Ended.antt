-- How a run has ended and how much waits, by what is known of its nodes.
use Rattle.std.proofs.Common.{◌≡◌, ℕ, suc, ◌+◌, ◌-◌, ◌<◌, ◌≤◌, inl, inr, List, [], ◌∷◌, length, get_or, sum_by, Some, None, refl, sym, ap, subst, ◌∙◌, ⊎_elim, arith}
use Rattle.std.specs.List.{All, range_with_len}
use Rattle.std.proofs.lemmas.Bool.{cases_eq, cases_lt}
use Rattle.std.proofs.lemmas.List.FromFn.{get_or-range_with_len, length-range_with_len}
use Rattle.std.proofs.lemmas.List.Sums.{get_or-le-sum_by, sum_by-cons}
use Rattle.ken_model.specs.declared.reports.Emission.{Emission}
use Rattle.ken_model.specs.declared.reports.Ending.{Ending}
use Rattle.ken_model.specs.declared.reports.Ending.TheVariants.{Settled, Cut}
use Rattle.ken_model.specs.Emissions.{AreAllEmitted}
use Rattle.ken_model.specs.Ending.{Ends, nodes_of, waiting, waiting_on}
use Rattle.ken_model.specs.Game.{Game}
use Rattle.ken_model.specs.Network.{Network, outputs_from, outside}
use Rattle.ken_model.specs.Schedule.{play}
use Rattle.ken_check.specs.declared.known.Known.{Known}
use Rattle.ken_check.specs.Endings.{EndsBy, IsDone}
use Rattle.ken_check.specs.Knowing.{HasOnlyNodes, KnowsNode}
use Rattle.ken_check.specs.Right.{Told}

length-outputs_from : (n : ℕ) (xs : List (List ℕ)) → length (outputs_from n xs) ≡ length xs
unfolding outputs_from
length-outputs_from n [] = refl
length-outputs_from n (x ∷ xs) = ap suc (length-outputs_from (n + 1) xs)

-- a list with a place has an element
element : {X : Type 0} (xs : List X) (i : ℕ) → i < length xs → X
element [] i within = absurd (omega arith)
element (x ∷ xs) i within = x

-- a sum that isn't 0 has a part that isn't
part : {X : Type 0} (f : X → ℕ) (xs : List X) → 0 < sum_by f xs → (x : X) × (0 < f x)
part f [] some = absurd (omega arith)
part f (x ∷ xs) some = ⊎_elim (λ here. (x, here)) (λ none. part f xs (omega (arith, some, none, sum_by-cons f x xs))) (cases_lt 0 (f x))

sum-same : {X : Type 0} (f : X → ℕ) (h : ℕ → ℕ) (a : ℕ) (xs : List X) → ((i : ℕ) (d : X) → i < length xs → f (get_or xs i d) ≡ h (a + i)) → sum_by f xs ≡ sum_by h (range_with_len a (length xs))
sum-same f h a [] each = refl
sum-same f h a (x ∷ xs) each =
    let here : f x ≡ h a = each 0 x (omega arith) ∙ ap h (omega arith) in
    let rest = sum-same f h (a + 1) xs (λ i d within. each (suc i) d (omega arith) ∙ ap h (omega arith)) in
    omega (arith, here, rest, sum_by-cons f x xs, sum_by-cons h a (range_with_len (a + 1) (length xs)))

-- how much waits for a node
abbrev pub for_node : Game → Network → ℕ → ℕ
for_node g w v = sum_by (λ u. waiting_on (w.link u v)) (outside ∷ nodes_of g)

-- a run has one ending
pub one_ending : (g : Game) (w : Network) (es : List Emission) (a b : Ending) → Ends g w es a → Ends g w es b → a ≡ b
one_ending g w es Settled Settled first second = refl
one_ending g w es Settled Cut first second = absurd (omega (arith, first.1 second.1.some.0 second.1.some.1, second.1.some.2))
one_ending g w es Cut Settled first second = absurd (omega (arith, second.1 first.1.some.0 first.1.some.1, first.1.some.2))
one_ending g w es Cut Cut first second = refl

module _ (g : Game) (w : Network) (only : HasOnlyNodes g w) where
  -- nothing waits for a number that is no node, nor from one
  beyond : (u v : ℕ) → g.nodes ≤ v → waiting_on (w.link u v) ≡ 0
  beyond u v past = omega (arith, ap length (only.nowhere u v past))

  from : (u v : ℕ) → waiting_on (w.link u v) ≤ for_node g w v
  from u v =
      let f : ℕ → ℕ = λ x. waiting_on (w.link x v) in
      let sum : for_node g w v ≡ f outside + sum_by f (nodes_of g) = sum_by-cons f outside (nodes_of g) in
      ⊎_elim
      (λ out. omega (arith, sum, ap f out))
      (λ other. ⊎_elim
      (λ known.
      let one = get_or-le-sum_by f (nodes_of g) u 0 (omega (arith, known, length-range_with_len 0 g.nodes)) in
      let is : f (get_or (nodes_of g) u 0) ≡ f u = ap f (get_or-range_with_len 0 g.nodes u 0 known ∙ omega arith) in
      omega (arith, sum, one, is))
      (λ past. omega (arith, ap length (only.strangers u v past other)))
      (cases_lt u g.nodes))
      (cases_eq u outside)

module _ (g : Game) (told : Told) (ks : List Known) (width : length ks ≡ g.nodes) (each : (v : ℕ) → v < g.nodes → (none : Known) → KnowsNode g told v (get_or ks v none)) where
  -- as much waits as is counted
  pub waiting-is : sum_by (λ (k : Known). k.came - k.turns) ks ≡ waiting g (play g told.schedule)
  unfolding waiting
  waiting-is =
      let h = for_node g (play g told.schedule) in
      let same : (i : ℕ) (d : Known) → i < length ks → (get_or ks i d).came - (get_or ks i d).turns ≡ h (0 + i) =
      λ i d within. let knows = each i (omega (arith, within, width)) d in let at : h (0 + i) ≡ h i = ap h (omega arith) in omega (arith, knows.came, at) in
      sum-same (λ (k : Known). k.came - k.turns) h 0 ks same ∙ ap (λ n. sum_by h (range_with_len 0 n)) width

  emitted-is : (v : ℕ) (k : Known) → KnowsNode g told v k → length k.outs.items ≡ length ((play g told.schedule).place v).outs
  emitted-is v k knows = ap length knows.outs ∙ length-outputs_from 0 ((play g told.schedule).place v).outs

  module _ (only : HasOnlyNodes g (play g told.schedule)) where
    -- all that is done was emitted
    all_emitted : All (IsDone g.turns) ks → AreAllEmitted g (play g told.schedule) told.emissions
    all_emitted all v known =
        let within : v < length ks = omega (arith, known, width) in
        let d : Known = element ks v within in
        let knows = each v known d in
        sym knows.emitted ∙ (all v d within).emitted ∙ emitted-is v (get_or ks v d) knows

    -- it ended so
    pub ended : (e : Ending) → EndsBy g.turns ks (Some e) → Ends g (play g told.schedule) told.emissions e
    ended Settled by =
        let none : (u v : ℕ) → waiting_on ((play g told.schedule).link u v) ≡ 0 =
        λ u v. ⊎_elim
        (λ known.
        let within : v < length ks = omega (arith, known, width) in
        let d : Known = element ks v within in
        let knows = each v known d in
        omega (arith, knows.came, by.1 v d within, from g (play g told.schedule) only u v))
        (λ past. beyond g (play g told.schedule) only u v past)
        (cases_lt v g.nodes) in
        (all_emitted by.0, none)
    ended Cut by =
        let v : ℕ = by.1.0 in
        let k : Known = by.1.1 in
        let known : v < g.nodes = omega (arith, by.1.2, width) in
        let knows = subst (KnowsNode g told v) by.1.3 (each v known k) in
        let some = part (λ u. waiting_on ((play g told.schedule).link u v)) (outside ∷ nodes_of g) (omega (arith, knows.came, by.1.4)) in
        let turned : (u x : ℕ) → 0 < waiting_on ((play g told.schedule).link u x) → ((play g told.schedule).place x).turns ≡ g.turns =
        λ u x waits. ⊎_elim
        (λ here.
        let within : x < length ks = omega (arith, here, width) in
        let d : Known = element ks x within in
        let knows_x = each x here d in
        ⊎_elim
        (λ same. absurd (omega (arith, knows_x.came, same, waits, from g (play g told.schedule) only u x)))
        (λ all. sym knows_x.turns ∙ all)
        (by.0 x d within).over)
        (λ past. absurd (omega (arith, waits, beyond g (play g told.schedule) only u x past)))
        (cases_lt x g.nodes) in
        (all_emitted by.0, record { some = (some.0, v, some.1); each = turned })

  of_each : (e : Ending) → Ends g (play g told.schedule) told.emissions e → AreAllEmitted g (play g told.schedule) told.emissions
  of_each Settled ends = ends.0
  of_each Cut ends = ends.0

  turned_at : (e : Ending) (u v : ℕ) → Ends g (play g told.schedule) told.emissions e → 0 < waiting_on ((play g told.schedule).link u v) → ((play g told.schedule).place v).turns ≡ g.turns
  turned_at Settled u v ends waits = absurd (omega (arith, waits, ends.1 u v))
  turned_at Cut u v ends waits = ends.1.each u v waits

  -- nothing of a node is left to do where a run has ended
  done : (e : Ending) (v : ℕ) (k : Known) → v < g.nodes → KnowsNode g told v k → Ends g (play g told.schedule) told.emissions e → IsDone g.turns k
  done e v k known knows ends = record {
    emitted = knows.emitted ∙ of_each e ends v known ∙ sym (emitted-is v k knows);
    over = ⊎_elim
        (λ some. let waits = part (λ u. waiting_on ((play g told.schedule).link u v)) (outside ∷ nodes_of g) some in inr (knows.turns ∙ turned_at e waits.0 v ends waits.1))
        (λ none. inl (omega (arith, knows.came, none)))
        (cases_lt 0 (for_node g (play g told.schedule) v));
  }

  -- it has not ended
  pub not_ended : EndsBy g.turns ks None → (e : Ending) → Ends g (play g told.schedule) told.emissions e → ⊥
  not_ended by e ends =
      let known : by.0 < g.nodes = omega (arith, by.2, width) in
      by.4 (done e by.0 by.1 known (subst (KnowsNode g told by.0) by.3 (each by.0 known by.1)) ends)
