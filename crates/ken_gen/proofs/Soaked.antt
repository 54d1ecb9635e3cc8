-- A soak run: its inputs make few visits and leave little, so no node is short of turns and each root is what was left.
use Rattle.std.proofs.Common.{◌≡◌, ℕ, zero, suc, ◌+◌, ◌-◌, ◌*◌, ◌/◌, ◌%◌, ◌^◌, ◌<◌, ◌≤◌, List, [], ◌∷◌, map, length, drop, sum_by, All, Bool, true, false, ◌==◌, nat_lt, if◌then◌else◌, Option, Some, None, decimal, refl, sym, ap, subst, ◌∙◌, arith, eq-eqb, eqb-true, ltb-true, lit<, length-drop}
use Rattle.std.specs.List.{AllByRecursion, range_with_len}
use Rattle.std.proofs.Math.Nat.{mod-eq_of_lt}
use Rattle.std.proofs.lemmas.List.Elements.{All-nil, All-cons}
use Rattle.std.proofs.lemmas.List.Sums.{sum_by-cons, sum_by-le, sum_by-le-sum_by}
use Rattle.ken_model.specs.declared.facts.Input.{Input}
use Rattle.ken_model.specs.declared.facts.TheConstants.{MAX_INPUTS, MAX_NODES}
use Rattle.ken_model.specs.declared.messages.Message.{Message}
use Rattle.ken_model.specs.declared.messages.Step.{Step}
use Rattle.ken_model.specs.Ending.{IsCut, IsSettled, waiting_on}
use Rattle.ken_model.specs.Game.{Game}
use Rattle.ken_model.specs.Network.{Network, outside}
use Rattle.ken_model.specs.Schedule.{IsLegal, play}
use Rattle.ken_num.specs.Numbers.{num}
use Rattle.ken_gen.specs.declared.soaks.NodeTotal.{NodeTotal}
use Rattle.ken_gen.specs.Draws.{drawn, past}
use Rattle.ken_gen.specs.Inputs.{input_at, inputs_from, past_input}
use Rattle.ken_gen.specs.Shares.{Visit, counted, counted_of, left, path, path_of, visits}
use Rattle.ken_gen.specs.ShareLaws.{IsShareGame, IsShared}
use Rattle.ken_gen.specs.SoakLaws.{SoaksComeOut, soak_game}
use Rattle.ken_gen.specs.Summary.{all_roots, all_turns, summary, summary_of, total_by, totals_in}
use Rattle.ken_gen.proofs.Keeps.{drawn_below, inputs_length}
use Rattle.ken_gen.proofs.Links.{on_link, weighed}
use Rattle.ken_num.proofs.ReadBack.{num_decimal}
use Rattle.ken_gen.proofs.Paths.{below, counted-cons, weight}
use Rattle.ken_gen.proofs.Shared.{midway, shares_come_out}
use Rattle.ken_gen.proofs.Sums.{IsLink, one, total, total-one}

-- ---- a path

-- a number makes few visits
visits-few : (k j nodes node n x : ℕ) → n < below j → counted (λ v. 1) x (path k nodes node n) ≤ suc j
visits-few zero j nodes node n x small = omega arith
visits-few (suc k) j nodes node n x small =
    by j small (nat_lt 0 (n / 2)) refl (λ i less. visits-few k i nodes ((node + 1) % nodes) (n / 2) x less)
  where
    rest : List Visit
    rest = path k nodes ((node + 1) % nodes) (n / 2)

    first : (if node == x then 1 else 0) ≤ 1
    first = at (node == x)
      where
        at : (b : Bool) → (if b then 1 else 0) ≤ 1
        at true = omega arith
        at false = omega arith

    by : (j : ℕ) → n < below j → (b : Bool) → nat_lt 0 (n / 2) ≡ b → ((i : ℕ) → n / 2 < below i → counted (λ v. 1) x rest ≤ suc i) → counted (λ v. 1) x (record { node = node; left = n - n / 2 } ∷ (if b then rest else [])) ≤ suc j
    by j small false is less = omega (arith, first, counted-cons (λ v. 1) x (record { node = node; left = n - n / 2 }) [])
    by zero small true is less = absurd (omega (arith, ltb-true 0 (n / 2) is))
    by (suc i) small true is less = omega (arith, first, counted-cons (λ v. 1) x (record { node = node; left = n - n / 2 }) rest, less i (omega (arith, small)))

-- it leaves no more than it is
left-few : (k nodes node n x : ℕ) → counted (λ v. v.left) x (path k nodes node n) ≤ n
left-few zero nodes node n x = omega arith
left-few (suc k) nodes node n x = by (node == x) (nat_lt 0 (n / 2)) refl (left-few k nodes ((node + 1) % nodes) (n / 2) x)
  where
    rest : List Visit
    rest = path k nodes ((node + 1) % nodes) (n / 2)

    here : Visit
    here = record { node = node; left = n - n / 2 }

    by : (a b : Bool) → (node == x) ≡ a → counted (λ v. v.left) x rest ≤ n / 2 → counted (λ v. v.left) x (here ∷ (if b then rest else [])) ≤ n
    by true true is less = let own : (if node == x then n - n / 2 else 0) ≡ n - n / 2 = rw is refl in omega (arith, counted-cons (λ v. v.left) x here rest, own, less)
    by true false is less = let own : (if node == x then n - n / 2 else 0) ≡ n - n / 2 = rw is refl in omega (arith, counted-cons (λ v. v.left) x here [], own)
    by false true is less = let own : (if node == x then n - n / 2 else 0) ≡ 0 = rw is refl in omega (arith, counted-cons (λ v. v.left) x here rest, own, less)
    by false false is less = let own : (if node == x then n - n / 2 else 0) ≡ 0 = rw is refl in omega (arith, counted-cons (λ v. v.left) x here [], own)

-- ---- the inputs of a soak run

-- what holds of a path of each number below 1000 holds of each input's
each-input : (P : List Visit → Type 0) (nodes : ℕ) → ((node n : ℕ) → n < 1000 → P (path 30 nodes node n)) → (count seed : ℕ) → All (λ (i : Input). P (path_of nodes i.node (num i.text))) (inputs_from nodes count seed)
unfolding inputs_from input_at
each-input P nodes holds zero seed = All-nil (λ (i : Input). P (path_of nodes i.node (num i.text)))
each-input P nodes holds (suc count) seed =
    All-cons (λ (i : Input). P (path_of nodes i.node (num i.text))) (input_at nodes seed) (inputs_from nodes count (past_input seed)) (at seed) (each-input P nodes holds count (past_input seed))
  where
    at : (x : ℕ) → P (path_of nodes (input_at nodes x).node (num (input_at nodes x).text))
    at x =
        let small : drawn 1000 (past x) < 1000 = drawn_below 1000 (past x) (lit< tt) in
        let read : num (decimal (drawn 1000 (past x))) ≡ Some (drawn 1000 (past x)) = num_decimal (drawn 1000 (past x)) (omega (arith, small)) in
        subst (λ o. P (path_of nodes (drawn nodes x) o)) (sym read) (holds (drawn nodes x) (drawn 1000 (past x)) small)

soak-visits : (nodes count seed x : ℕ) → visits nodes x (inputs_from nodes count seed) ≤ count * 10
unfolding counted_of
soak-visits nodes count seed x =
    let each = each-input (λ vs. counted (λ v. 1) x vs ≤ 10) nodes (λ node n small. visits-few 30 9 nodes node n x (omega (arith, small))) count seed in
    let all = sum_by-le (λ (i : Input). counted (λ v. 1) x (path_of nodes i.node (num i.text))) 10 (inputs_from nodes count seed) each in
    omega (arith, all, inputs_length nodes count seed)

soak-left : (nodes count seed x : ℕ) → left nodes x (inputs_from nodes count seed) ≤ count * 999
unfolding counted_of
soak-left nodes count seed x =
    let each = each-input (λ vs. counted (λ v. v.left) x vs ≤ 999) nodes (λ node n small. omega (arith, left-few 30 nodes node n x, small)) count seed in
    let all = sum_by-le (λ (i : Input). counted (λ v. v.left) x (path_of nodes i.node (num i.text))) 999 (inputs_from nodes count seed) each in
    omega (arith, all, inputs_length nodes count seed)

pub soak_known : (nodes count seed : ℕ) → 0 < nodes → AllByRecursion (λ (i : Input). i.node < nodes) (inputs_from nodes count seed)
unfolding inputs_from input_at
soak_known nodes zero seed some = tt
soak_known nodes (suc count) seed some = (drawn_below nodes seed some, soak_known nodes count (past_input seed) some)

-- ---- what waits has visits to come

total-le : (nodes : ℕ) (a b : ℕ → ℕ → ℕ) → ((u v : ℕ) → a u v ≤ b u v) → total nodes a ≤ total nodes b
total-le nodes a b less =
    sum_by-le-sum_by (λ v. sum_by (λ u. a u v) (outside ∷ range_with_len 0 nodes)) (λ v. sum_by (λ u. b u v) (outside ∷ range_with_len 0 nodes)) (range_with_len 0 nodes)
    (λ v. sum_by-le-sum_by (λ u. a u v) (λ u. b u v) (outside ∷ range_with_len 0 nodes) (λ u. less u v))

total-at : (nodes : ℕ) (a : ℕ → ℕ → ℕ) (p q : ℕ) → nodes ≤ outside → IsLink nodes p q → a p q ≤ total nodes a
total-at nodes a p q few link = omega (arith, total-one nodes p q (a p q) few link, total-le nodes (one p q (a p q)) a each)
  where
    by : (u v : ℕ) (c d : Bool) → (u == p) ≡ c → (v == q) ≡ d → (if c then if d then a p q else 0 else 0) ≤ a u v
    by u v true true e f = let same : a u v ≡ a p q = ap (λ k. a k v) (eqb-true u p e) ∙ ap (a p) (eqb-true v q f) in omega (arith, same)
    by u v true false e f = omega arith
    by u v false d e f = omega arith

    each : (u v : ℕ) → one p q (a p q) u v ≤ a u v
    each u v = by u v (u == p) (v == q) refl refl

abbrev once : Bool → ℕ
once b = if b then 1 else 0

first-visit : (nodes v : ℕ) (o : Option ℕ) → 1 ≤ counted (λ v. 1) v (path_of nodes v o)
first-visit nodes v None = let here = eq-eqb v v refl in let own : once (v == v) ≡ 1 = rw here refl in omega (arith, own, counted-cons (λ v. 1) v (record { node = v; left = 0 }) [])
first-visit nodes v (Some n) =
    let here = eq-eqb v v refl in
    let own : once (v == v) ≡ 1 = rw here refl in
    omega (arith, own, counted-cons (λ v. 1) v (record { node = v; left = n - n / 2 }) (if nat_lt 0 (n / 2) then path 29 nodes ((v + 1) % nodes) (n / 2) else []))

some-weight : (nodes v : ℕ) (ms : List Message) → 0 < length ms → 1 ≤ weighed (weight (λ v. 1) v nodes v) ms
some-weight nodes v [] some = absurd (omega (arith, some))
some-weight nodes v (m ∷ ms) some = omega (arith, sum_by-cons (λ (m : Message). weight (λ v. 1) v nodes v m.bytes) m ms, first-visit nodes v (num m.bytes))

-- ---- the law

map-range : {X : Type 0} (f h : ℕ → X) (a n : ℕ) → ((k : ℕ) → k < a + n → f k ≡ h k) → map f (range_with_len a n) ≡ map h (range_with_len a n)
map-range f h a zero same = refl
map-range f h a (suc n) same =
    ap (λ y. y ∷ map f (range_with_len (a + 1) n)) (same a (omega arith)) ∙ ap (λ ys. h a ∷ ys) (map-range f h (a + 1) n (λ k less. same k (omega (arith, less))))

-- what is small at each node is small in sum
sum-range : (f : NodeTotal → ℕ) (h : ℕ → NodeTotal) (a n : ℕ) → ((v : ℕ) → f (h v) ≤ 10000000) → sum_by f (map h (range_with_len a n)) ≤ n * 10000000
sum-range f h a zero few = omega arith
sum-range f h a (suc n) few = omega (arith, sum_by-cons f (h a) (map h (range_with_len (a + 1) n)), few a, sum-range f h (a + 1) n few)

abbrev total_of : ℕ → ℕ → NodeTotal
total_of turns root = record { turns = turns; root = root }

module _ (seed nodes inputs : ℕ) (schedule : List Step) (some : 0 < nodes) (few_nodes : nodes ≤ MAX_NODES) (few_inputs : inputs ≤ MAX_INPUTS) (legal : IsLegal (soak_game seed nodes inputs) schedule) where
  abbrev g : Game
  g = soak_game seed nodes inputs

  abbrev net : Network
  net = play g schedule

  is_share : IsShareGame g
  is_share = record { handler = refl; few = omega (arith, few_nodes); inputs = soak_known nodes inputs seed some }

  enough : (u v : ℕ) → 0 < waiting_on (net.link u v) → (net.place v).turns < g.turns
  enough u v waits =
      let mid = midway g v schedule is_share legal in
      let link = mid.links u v (omega (arith, waits)) in
      let one_waits = some-weight nodes v (drop (net.link u v).taken (net.link u v).sent) (omega (arith, waits, length-drop (net.link u v).taken (net.link u v).sent)) in
      let within = total-at nodes (λ u v'. on_link (weight (λ v. 1) v nodes v') (net.link u v')) u v is_share.few link in
      omega (arith, mid.turns, soak-visits nodes inputs seed v, few_inputs, one_waits, within)

  not_cut : IsCut g net → ⊥
  not_cut cut =
      let more = enough cut.some.0 cut.some.1 cut.some.2 in
      let all = cut.each cut.some.0 cut.some.1 cut.some.2 in
      omega (arith, more, all)

  module _ (settled : IsSettled net) where
    shared : IsShared g net
    shared = shares_come_out g schedule is_share legal settled

    each : (v : ℕ) → v < 0 + nodes → total_of (net.place v).turns (net.place v).value.root ≡ total_of (visits nodes v (inputs_from nodes inputs seed)) (left nodes v (inputs_from nodes inputs seed))
    each v known =
        let less : v < nodes = omega (arith, known) in
        let root : (net.place v).value.root ≡ left nodes v (inputs_from nodes inputs seed) = shared.roots v less ∙ mod-eq_of_lt (omega (arith, soak-left nodes inputs seed v, few_inputs)) in
        ap (λ (k : ℕ). total_of k (net.place v).value.root) (shared.turns v less) ∙ ap (total_of (visits nodes v (inputs_from nodes inputs seed))) root

    totals : totals_in g net ≡ map (total_by nodes (inputs_from nodes inputs seed)) (range_with_len 0 nodes)
    totals = map-range _ _ 0 nodes each

    told : summary_of seed inputs (totals_in g net) ≡ summary seed nodes inputs
    unfolding summary
    told = ap (summary_of seed inputs) totals

    few_turns : all_turns (totals_in g net) < 2 ^ 64
    few_turns =
        let sum = sum-range (λ (t : NodeTotal). t.turns) (total_by nodes (inputs_from nodes inputs seed)) 0 nodes (λ v. omega (arith, soak-visits nodes inputs seed v, few_inputs)) in
        omega (arith, ap all_turns totals, sum, few_nodes)

    small_roots : all_roots (totals_in g net) < 2 ^ 64
    small_roots =
        let sum = sum-range (λ (t : NodeTotal). t.root) (total_by nodes (inputs_from nodes inputs seed)) 0 nodes (λ v. omega (arith, soak-left nodes inputs seed v, few_inputs)) in
        omega (arith, ap all_roots totals, sum, few_nodes)

pub soaks_come_out : SoaksComeOut
soaks_come_out seed nodes inputs schedule some few_nodes few_inputs legal = record {
  enough = enough seed nodes inputs schedule some few_nodes few_inputs legal;
  not_cut = not_cut seed nodes inputs schedule some few_nodes few_inputs legal;
  told = told seed nodes inputs schedule some few_nodes few_inputs legal;
  few_turns = few_turns seed nodes inputs schedule some few_nodes few_inputs legal;
  small_roots = small_roots seed nodes inputs schedule some few_nodes few_inputs legal;
}
