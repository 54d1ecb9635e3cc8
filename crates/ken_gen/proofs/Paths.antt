-- A path, as a handler of kind share makes it: a visit, and what is sent on.
use Rattle.std.proofs.Common.{◌≡◌, ℕ, zero, suc, ◌+◌, ◌-◌, ◌*◌, ◌/◌, ◌%◌, ◌^◌, ◌<◌, List, [], ◌∷◌, Bool, true, false, ◌==◌, nat_lt, if◌then◌else◌, Option, Some, None, decimal, refl, sym, ap, ◌∙◌, ⊎_elim, arith, eq-eqb, ne_eqb}
use Rattle.std.proofs.Math.Nat.{mod-lt, mod-add-mod}
use Rattle.std.proofs.lemmas.Bool.{cases_eq}
use Rattle.std.proofs.lemmas.List.Sums.{sum_by-cons}
use Rattle.ken_model.specs.declared.values.Value.{Value}
use Rattle.ken_model.specs.Effects.{Effect}
use Rattle.ken_model.specs.Kinds.{share}
use Rattle.ken_model.specs.Network.{numbered}
use Rattle.ken_num.specs.Numbers.{num}
use Rattle.ken_num.proofs.ReadBack.{num_decimal}
use Rattle.ken_gen.specs.Shares.{Visit, path, path_of, counted}
use Rattle.ken_gen.proofs.Sums.{only}
use Rattle.ken_gen.proofs.Links.{SendsOnly, weighed}

-- ---- visits that are enough

-- below this a number makes at most so many visits and one
abbrev pub below : ℕ → ℕ
below zero = 2
below (suc k) = 2 * below k

-- with one visit more nothing changes
pub path-enough : (k nodes node n : ℕ) → n < below k → path (suc k) nodes node n ≡ path (suc (suc k)) nodes node n
path-enough zero nodes node n small = let none : nat_lt 0 (n / 2) ≡ false = grind (arith, last n small) in rw none refl
  where
    last : (n : ℕ) → n < 2 → n / 2 ≡ 0
    last n small = omega arith
path-enough (suc k) nodes node n small =
    let rest = path-enough k nodes ((node + 1) % nodes) (n / 2) (omega (arith, small)) in
    ap (λ (vs : List Visit). record { node = node; left = n - n / 2 } ∷ (if nat_lt 0 (n / 2) then vs else [])) rest

-- ---- what a payload leaves, and what goes on

abbrev pub kept : Option ℕ → ℕ
kept None = 0
kept (Some n) = n - n / 2

abbrev pub visit : ℕ → Option ℕ → Visit
visit node o = record { node = node; left = kept o }

-- a text weighs what its path counts at a node
abbrev pub weight : (Visit → ℕ) → ℕ → ℕ → ℕ → List ℕ → ℕ
weight f x nodes node bytes = counted f x (path_of nodes node (num bytes))

only-zero : (to v : ℕ) → only to 0 v ≡ 0
only-zero to v = by (v == to)
  where
    by : (b : Bool) → (if b then 0 else 0) ≡ zero
    by true = refl
    by false = refl

nothing-sent : (weigh : ℕ → List ℕ → ℕ) (to : ℕ) → SendsOnly weigh [] to 0
nothing-sent weigh to = record { sent = λ u v n stamp. sym (only-zero to v) }

one-sent : (weigh : ℕ → List ℕ → ℕ) (to : ℕ) (bytes : List ℕ) → SendsOnly weigh (record { to = to; bytes = bytes } ∷ []) to (weigh to bytes)
one-sent weigh to bytes = record { sent = λ u v n stamp. at u v n stamp }
  where
    at : (u v n stamp : ℕ) → weighed (weigh v) (numbered u v n stamp (record { to = to; bytes = bytes } ∷ [])) ≡ only to (weigh to bytes) v
    at u v n stamp =
        ⊎_elim
        (λ (e : v ≡ to). let a = eq-eqb v to e in let b = eq-eqb to v (sym e) in let same : weigh v bytes ≡ weigh to bytes = ap (λ k. weigh k bytes) e in rw (a, b) (omega (arith, same)))
        (λ ne. let a = ne_eqb v to ne in let b = ne_eqb to v (λ e. ne (sym e)) in rw (a, b) refl)
        (cases_eq v to)

-- the effect of kind share: it visits its node, and sends on the rest of the path
pub record GoesOn (f : Visit → ℕ) (x nodes node : ℕ) (o : Option ℕ) (e : Effect) : Type 0 where
  pub to : ℕ
  pub known : to < nodes
  pub cost : ℕ
  pub sends : SendsOnly (weight f x nodes) e.sends to cost
  pub whole : counted f x (path_of nodes node o) ≡ (if node == x then f (visit node o) else 0) + cost

pub counted-cons : (f : Visit → ℕ) (x : ℕ) (v : Visit) (vs : List Visit) → counted f x (v ∷ vs) ≡ (if v.node == x then f v else 0) + counted f x vs
counted-cons f x v vs = sum_by-cons (λ (v : Visit). if v.node == x then f v else 0) v vs

pub share-goes : (f : Visit → ℕ) (x nodes node : ℕ) (value : Value) (o : Option ℕ) → node < nodes → ((n : ℕ) → o ≡ Some n → n < 10 ^ 9) → GoesOn f x nodes node o (share node nodes value o)
share-goes f x nodes node value None known small = record { to = node; known = known; cost = 0; sends = nothing-sent (weight f x nodes) node; whole = counted-cons f x (visit node None) [] }
share-goes f x nodes node value (Some n) known small = by (nat_lt 0 (n / 2)) refl
  where
    next : ℕ
    next = (node + 1) % nodes

    n-small : n < 10 ^ 9
    n-small = small n refl

    tail : (b : Bool) → nat_lt 0 (n / 2) ≡ b → counted f x (path 30 nodes node n) ≡ (if node == x then f (visit node (Some n)) else 0) + counted f x (if b then path 29 nodes next (n / 2) else [])
    tail b is = counted-cons f x (visit node (Some n)) (if nat_lt 0 (n / 2) then path 29 nodes next (n / 2) else []) ∙ ap (λ (c : Bool). (if node == x then f (visit node (Some n)) else 0) + counted f x (if c then path 29 nodes next (n / 2) else [])) is

    by : (b : Bool) → nat_lt 0 (n / 2) ≡ b → GoesOn f x nodes node (Some n) (share node nodes value (Some n))
    by true is =
        let lt : next < nodes = mod-lt (node + 1) (omega (arith, known)) in
        let half : n / 2 < below 28 = omega (arith, n-small) in
        let read : num (decimal (n / 2)) ≡ Some (n / 2) = num_decimal (n / 2) (omega (arith, n-small)) in
        let same : weight f x nodes next (decimal (n / 2)) ≡ counted f x (path 29 nodes next (n / 2)) = ap (λ o. counted f x (path_of nodes next o)) read ∙ ap (counted f x) (sym (path-enough 28 nodes next (n / 2) half)) in
        record {
          to = next;
          known = lt;
          cost = weight f x nodes next (decimal (n / 2));
          sends = rw is (one-sent (weight f x nodes) next (decimal (n / 2)));
          whole = tail true is ∙ ap (λ k. (if node == x then f (visit node (Some n)) else 0) + k) (sym same);
        }
    by false is = record { to = node; known = known; cost = 0; sends = rw is (nothing-sent (weight f x nodes) node); whole = tail false is }

-- and it adds what the visit leaves to the root
pub share-root : (node nodes made : ℕ) (value : Value) (o : Option ℕ) → value.root ≡ made % 2 ^ 64 → (share node nodes value o).value.root ≡ (made + kept o) % 2 ^ 64
share-root node nodes made value None is = omega (arith, is)
share-root node nodes made value (Some n) is = ap (λ r. (r + (n - n / 2)) % 2 ^ 64) is ∙ mod-add-mod made (2 ^ 64) (n - n / 2)
