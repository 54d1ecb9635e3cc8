-- What paths leave at all nodes is the sum of the inputs.
use Rattle.std.proofs.Common.{◌≡◌, ℕ, zero, suc, ◌+◌, ◌-◌, ◌/◌, ◌%◌, ◌^◌, ◌<◌, List, [], ◌∷◌, sum_by, Bool, true, false, ◌==◌, nat_lt, if◌then◌else◌, Option, Some, None, refl, sym, ap, ◌∙◌, ⊎_elim, arith, eq-eqb, ne_eqb, ltb-false}
use Rattle.std.specs.List.{AllByRecursion, range_with_len}
use Rattle.std.proofs.Math.Nat.{mod-lt}
use Rattle.std.proofs.lemmas.Bool.{cases_eq}
use Rattle.std.proofs.lemmas.List.Sums.{sum_by-cons}
use Rattle.ken_model.specs.declared.facts.Input.{Input}
use Rattle.ken_num.specs.Numbers.{num}
use Rattle.ken_num.proofs.Small.{num-lt}
use Rattle.ken_gen.specs.Shares.{Visit, counted, counted_of, path, path_of}
use Rattle.ken_gen.specs.ShareLaws.{SharesAddUp, number_or_none}
use Rattle.ken_gen.proofs.Paths.{below, counted-cons}
use Rattle.ken_gen.proofs.Sums.{only, sum-only, sum-plus, sum-same, sum-turned, sum-zero}

-- what a path leaves at all nodes
abbrev over : ℕ → List Visit → ℕ
over nodes vs = sum_by (λ x. counted (λ v. v.left) x vs) (range_with_len 0 nodes)

over-none : (nodes : ℕ) → over nodes [] ≡ 0
over-none nodes = sum-zero (λ x. counted (λ v. v.left) x []) (range_with_len 0 nodes) (λ x. refl)

own : (v : Visit) (x : ℕ) → (if v.node == x then v.left else 0) ≡ only v.node v.left x
own v x =
    ⊎_elim
    (λ (e : x ≡ v.node). let a = eq-eqb x v.node e in let b = eq-eqb v.node x (sym e) in rw (a, b) refl)
    (λ ne. let a = ne_eqb x v.node ne in let b = ne_eqb v.node x (λ e. ne (sym e)) in rw (a, b) refl)
    (cases_eq x v.node)

over-cons : (nodes : ℕ) (v : Visit) (vs : List Visit) → v.node < nodes → over nodes (v ∷ vs) ≡ v.left + over nodes vs
over-cons nodes v vs known =
    let each = sum-same (λ x. counted (λ v. v.left) x (v ∷ vs)) (λ x. only v.node v.left x + counted (λ v. v.left) x vs) (range_with_len 0 nodes) (λ x. counted-cons (λ v. v.left) x v vs ∙ ap (λ k. k + counted (λ v. v.left) x vs) (own v x)) in
    each ∙ sum-plus (only v.node v.left) (λ x. counted (λ v. v.left) x vs) (range_with_len 0 nodes) ∙ ap (λ k. k + over nodes vs) (sum-only v.node v.left nodes known)

-- a number that needs no more visits is left whole
path-whole : (k nodes node n : ℕ) → node < nodes → n < below k → over nodes (path (suc k) nodes node n) ≡ n
path-whole zero nodes node n known small =
    let here : Visit = record { node = node; left = n - n / 2 } in
    over-cons nodes here (if nat_lt 0 (n / 2) then [] else []) known ∙ by (nat_lt 0 (n / 2))
  where
    by : (b : Bool) → n - n / 2 + over nodes (if b then [] else []) ≡ n
    by true = omega (arith, over-none nodes, small)
    by false = omega (arith, over-none nodes, small)
path-whole (suc k) nodes node n known small =
    let here : Visit = record { node = node; left = n - n / 2 } in
    let next = path-whole k nodes ((node + 1) % nodes) (n / 2) (mod-lt (node + 1) (omega (arith, known))) (omega (arith, small)) in
    over-cons nodes here (if nat_lt 0 (n / 2) then path (suc k) nodes ((node + 1) % nodes) (n / 2) else []) known ∙ by (nat_lt 0 (n / 2)) refl next
  where
    by : (b : Bool) → nat_lt 0 (n / 2) ≡ b → over nodes (path (suc k) nodes ((node + 1) % nodes) (n / 2)) ≡ n / 2 → n - n / 2 + over nodes (if b then path (suc k) nodes ((node + 1) % nodes) (n / 2) else []) ≡ n
    by true is next = omega (arith, next)
    by false is next = let nothing : n / 2 ≡ 0 = omega (arith, ltb-false 0 (n / 2) is) in omega (arith, nothing, over-none nodes)

whole : (nodes node : ℕ) (o : Option ℕ) → node < nodes → ((n : ℕ) → o ≡ Some n → n < 10 ^ 9) → over nodes (path_of nodes node o) ≡ number_or_none o
whole nodes node None known small = omega (arith, over-cons nodes (record { node = node; left = 0 }) [] known, over-none nodes)
whole nodes node (Some n) known small = path-whole 29 nodes node n known (omega (arith, small n refl))

all : (nodes : ℕ) (inputs : List Input) → AllByRecursion (λ (i : Input). i.node < nodes) inputs → sum_by (λ (i : Input). over nodes (path_of nodes i.node (num i.text))) inputs ≡ sum_by (λ (i : Input). number_or_none (num i.text)) inputs
all nodes [] known = refl
all nodes (i ∷ is) known =
    let a = sum_by-cons (λ (i : Input). over nodes (path_of nodes i.node (num i.text))) i is in
    let b = sum_by-cons (λ (i : Input). number_or_none (num i.text)) i is in
    omega (arith, a, b, whole nodes i.node (num i.text) known.0 (num-lt i.text), all nodes is known.1)

pub shares_add_up : SharesAddUp
unfolding counted_of
shares_add_up nodes inputs known = sum-turned (λ x (i : Input). counted (λ v. v.left) x (path_of nodes i.node (num i.text))) (range_with_len 0 nodes) inputs ∙ all nodes inputs known
