-- The steps of following a path.
use Rattle.std.proofs.Common.{◌≡◌, ℕ, zero, suc, ◌+◌, ◌-◌, ◌/◌, ◌%◌, ◌<◌, ◌≤◌, List, [], ◌∷◌, ◌++◌, length, map, take, take_all, get_or, Bool, true, ◌==◌, nat_lt, if◌then◌else◌, refl, sym, ap, ◌∙◌, arith, lt-ltb}
use Rattle.std.specs.List.{AllByRecursion, range_with_len}
use Rattle.std.proofs.lemmas.List.FromFn.{map-range_with_len_more}
use Rattle.std.proofs.lemmas.List.Sums.{sum_by_more, sum_by_push}
use Rattle.ken_model.specs.declared.facts.Input.{Input}
use Rattle.ken_num.specs.Numbers.{num}
use Rattle.ken_gen.specs.declared.soaks.NodeTotal.{NodeTotal}
use Rattle.ken_gen.specs.Shares.{Visit, counted, counted_of, left, path, path_of, visits}
use Rattle.ken_gen.specs.Summary.{all_roots, all_turns, total_by}
use Rattle.ken_gen.proofs.Paths.{counted-cons}

-- the last visit
ends : (f : Visit → ℕ) (most nodes node n x : ℕ) → 0 < most → n / 2 ≡ 0 → counted f x (path most nodes node n) ≡ (if node == x then f (record { node = node; left = n - n / 2 }) else 0)
ends f zero nodes node n x some none = absurd (omega arith)
ends f (suc most) nodes node n x some none =
    let rest : List Visit = path most nodes ((node + 1) % nodes) (n / 2) in
    ap (λ k. counted f x (record { node = node; left = n - n / 2 } ∷ (if nat_lt 0 k then rest else []))) none ∙ counted-cons f x (record { node = node; left = n - n / 2 }) [] ∙ plus (if node == x then f (record { node = node; left = n - n / 2 }) else 0)
  where
    plus : (k : ℕ) → k + 0 ≡ k
    plus k = omega arith

-- a visit, and those after it
goes_on : (f : Visit → ℕ) (most nodes node n x : ℕ) → 0 < most → 0 < n / 2 → counted f x (path most nodes node n) ≡ (if node == x then f (record { node = node; left = n - n / 2 }) else 0) + counted f x (path (most - 1) nodes ((node + 1) % nodes) (n / 2))
goes_on f zero nodes node n x some more = absurd (omega arith)
goes_on f (suc most) nodes node n x some more =
    let rest : List Visit = path most nodes ((node + 1) % nodes) (n / 2) in
    let is : nat_lt 0 (n / 2) ≡ true = lt-ltb 0 (n / 2) more in
    let less : most ≡ suc most - 1 = omega arith in
    ap (λ (b : Bool). counted f x (record { node = node; left = n - n / 2 } ∷ (if b then rest else []))) is
    ∙ counted-cons f x (record { node = node; left = n - n / 2 }) rest
    ∙ ap (λ k. (if node == x then f (record { node = node; left = n - n / 2 }) else 0) + counted f x (path k nodes ((node + 1) % nodes) (n / 2))) less

pub turns_end : (most nodes node n x : ℕ) → 0 < most → n / 2 ≡ 0 → counted (λ v. 1) x (path most nodes node n) ≡ (if node == x then 1 else 0)
turns_end = ends (λ v. 1)

pub root_end : (most nodes node n x : ℕ) → 0 < most → n / 2 ≡ 0 → counted (λ v. v.left) x (path most nodes node n) ≡ (if node == x then n - n / 2 else 0)
root_end = ends (λ v. v.left)

pub turns_on : (most nodes node n x : ℕ) → 0 < most → 0 < n / 2 → counted (λ v. 1) x (path most nodes node n) ≡ (if node == x then 1 else 0) + counted (λ v. 1) x (path (most - 1) nodes ((node + 1) % nodes) (n / 2))
turns_on = goes_on (λ v. 1)

pub root_on : (most nodes node n x : ℕ) → 0 < most → 0 < n / 2 → counted (λ v. v.left) x (path most nodes node n) ≡ (if node == x then n - n / 2 else 0) + counted (λ v. v.left) x (path (most - 1) nodes ((node + 1) % nodes) (n / 2))
root_on = goes_on (λ v. v.left)

-- ---- inputs

pub counted_none : (f : Visit → ℕ) (nodes x : ℕ) → counted_of f nodes x [] ≡ 0
unfolding counted_of
counted_none f nodes x = refl

-- one more input
pub counted_next : (f : Visit → ℕ) (nodes x : ℕ) (inputs : List Input) (i : ℕ) (d : Input) → i < length inputs → counted_of f nodes x (take (i + 1) inputs) ≡ counted_of f nodes x (take i inputs) + counted f x (path_of nodes (get_or inputs i d).node (num (get_or inputs i d).text))
unfolding counted_of
counted_next f nodes x inputs i d within = sum_by_more (λ (i : Input). counted f x (path_of nodes i.node (num i.text))) inputs i d within

-- all inputs
pub counted_all : (f : Visit → ℕ) (nodes x : ℕ) (inputs : List Input) (i : ℕ) → length inputs ≤ i → counted_of f nodes x (take i inputs) ≡ counted_of f nodes x inputs
counted_all f nodes x inputs i done = ap (counted_of f nodes x) (take_all i inputs done)

pub known_at : (nodes : ℕ) (inputs : List Input) (i : ℕ) (d : Input) → AllByRecursion (λ (i : Input). i.node < nodes) inputs → i < length inputs → (get_or inputs i d).node < nodes
known_at nodes [] i d known within = absurd (omega (arith, within))
known_at nodes (y ∷ ys) zero d known within = known.0
known_at nodes (y ∷ ys) (suc i) d known within = known_at nodes ys i d known.1 (omega (arith, within))

-- ---- nodes

total_is : (t : NodeTotal) (turns root : ℕ) → t.turns ≡ turns → t.root ≡ root → t ≡ record { turns = turns; root = root }
total_is t turns root a b = ap (λ k. let u : NodeTotal = record { turns = k; root = t.root } in u) a ∙ ap (λ k. let u : NodeTotal = record { turns = turns; root = k } in u) b

-- one more node
pub totals_next : (nodes place : ℕ) (inputs : List Input) (totals : List NodeTotal) (t : NodeTotal) → totals ≡ map (total_by nodes inputs) (range_with_len 0 place) → t.turns ≡ visits nodes place inputs → t.root ≡ left nodes place inputs → totals ++ t ∷ [] ≡ map (total_by nodes inputs) (range_with_len 0 (place + 1))
totals_next nodes place inputs totals t so_far turns root =
    ap (λ ts. ts ++ t ∷ []) so_far
    ∙ ap (λ u. map (total_by nodes inputs) (range_with_len 0 place) ++ u ∷ []) (total_is t (visits nodes place inputs) (left nodes place inputs) turns root)
    ∙ sym (map-range_with_len_more (total_by nodes inputs) 0 place place (omega arith))

pub turns_push : (totals : List NodeTotal) (t : NodeTotal) → all_turns (totals ++ t ∷ []) ≡ all_turns totals + t.turns
turns_push totals t = sum_by_push (λ (t : NodeTotal). t.turns) totals t

pub roots_push : (totals : List NodeTotal) (t : NodeTotal) → all_roots (totals ++ t ∷ []) ≡ all_roots totals + t.root
roots_push totals t = sum_by_push (λ (t : NodeTotal). t.root) totals t
