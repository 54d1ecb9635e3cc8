-- The nodes at the start.
use Rattle.std.proofs.Common.{◌≡◌, ℕ, ◌+◌, ◌<◌, ◌≤◌, List, [], ◌∷◌, ◌++◌, length, map, replicate, slice_index_or, slice_set, Bool, true, false, ◌==◌, if◌then◌else◌, refl, sym, ap, subst, ◌∙◌, ⊎_elim, arith, append_assoc, eq-eqb, ne_eqb}
use Rattle.std.specs.List.{All, AllByRecursion}
use Rattle.std.proofs.lemmas.Bool.{cases_eq, cases_lt}
use Rattle.std.proofs.lemmas.List.{length_push, length-map, map-set, get_or-map, get_or-set_same, get_or-set_other, get_or-replicate, get_or_past, length-replicate}
use Rattle.std.proofs.lemmas.List.Elements.{All-map, All-nil, All-get_or, All-from_get_or, All-from_recursion, All-same}
use Rattle.ken_model.specs.declared.messages.Message.{Message}
use Rattle.ken_model.specs.declared.facts.Facts.{Facts}
use Rattle.ken_model.specs.declared.facts.Input.{Input}
use Rattle.ken_model.specs.declared.values.Value.{Value}
use Rattle.ken_model.specs.Game.{game_of}
use Rattle.ken_model.specs.Handler.{Handler}
use Rattle.ken_model.specs.Limits.{IsWithinLimits}
use Rattle.ken_model.specs.Network.{Link, empty_heap, first_place, outside, input_at, inputs_from, start}
use Rattle.ken_actors.specs.declared.node.Node.{Node}
use Rattle.ken_actors.specs.Playing.{game_for}
use Rattle.ken_actors.specs.Actors.{AreAlike}
use Rattle.ken_actors.specs.Held.{Held, held_at, no_node, place_of, sent_to, taken_from, network_of, turns_made, AreEarly, IsOfRun, AreHeld, IsHeldRun}
use Rattle.ken_actors.specs.Nodes.{held_of, new_node, IsGiven}

-- of the handler the limits say nothing
pub limits_of_facts : (h : Handler) (f : Facts) → IsWithinLimits (game_for h f) → IsWithinLimits (game_of f)
limits_of_facts h f limits = record {
  some_node = limits.some_node;
  few_nodes = limits.few_nodes;
  some_turn = limits.some_turn;
  few_turns = limits.few_turns;
  pages = limits.pages;
  few_inputs = limits.few_inputs;
  inputs = limits.inputs;
}

-- a node without inputs is to be given all its inputs
pub given_first : (f : Facts) (ns : List Node) (v : ℕ) → All (λ (n : Node). held_of n ≡ new_node f.nodes []) ns → v < length ns
    → IsGiven f.nodes (held_at (map held_of ns) v) (inputs_from v (length (held_at (map held_of ns) v).inputs) f.inputs) (inputs_from v 0 f.inputs)
given_first f ns v fresh known =
    let P : Held → Type 0 = λ h. h ≡ new_node f.nodes [] in
    let e : held_at (map held_of ns) v ≡ new_node f.nodes [] = All-get_or P (map held_of ns) v no_node (omega (arith, length-map ns held_of)) (All-map P held_of ns fresh) in
    subst (λ (h : Held). IsGiven f.nodes h (inputs_from v (length h.inputs) f.inputs) (inputs_from v 0 f.inputs)) (sym e) (record { fresh = refl; inputs = refl })

-- a node with one input more
abbrev pub given_to : Held → Input → Held
given_to h i = record h { inputs = h.inputs ++ input_at (length h.inputs + 1) i ∷ [] }

-- the input is one of those of its node, and of no other
pub given_more : (f : Facts) (hs : List Held) (i : Input) (is : List Input) (v : ℕ) (all : ℕ → List Message) → i.node < length hs
    → IsGiven f.nodes (held_at hs v) (inputs_from v (length (held_at hs v).inputs) (i ∷ is)) (all v)
    → let hs' = slice_set hs i.node (given_to (held_at hs i.node) i) in IsGiven f.nodes (held_at hs' v) (inputs_from v (length (held_at hs' v).inputs) is) (all v)
given_more f hs i is v all known given =
    let h : Held = held_at hs i.node in
    let hs' : List Held = slice_set hs i.node (given_to h i) in
    let Before : ℕ → Type 0 = λ w. IsGiven f.nodes (held_at hs w) (inputs_from w (length (held_at hs w).inputs) (i ∷ is)) (all w) in
    let After : Held → ℕ → Type 0 = λ x w. IsGiven f.nodes x (inputs_from w (length x.inputs) is) (all w) in
    ⊎_elim
    (λ e. let here : Before i.node = subst Before (sym e) given in
    let q : (i.node == i.node) ≡ true = eq-eqb i.node i.node refl in
    let left = rw q at here.inputs in
    let made : After (given_to h i) i.node = record { fresh = ap (λ (x : Held). record x { inputs = (given_to h i).inputs }) here.fresh; inputs = rw (append_assoc, length_push) left } in
    subst (λ w. After (held_at hs' w) w) e (subst (λ x. After x i.node) (sym (get_or-set_same hs i.node (given_to h i) no_node known)) made))
    (λ ne. let q : (i.node == v) ≡ false = ne_eqb i.node v ne in
    let left = rw q at given.inputs in
    subst (λ x. After x v) (sym (get_or-set_other hs i.node v (given_to h i) no_node (λ e. ne (sym e)))) (record { fresh = given.fresh; inputs = left }))
    (cases_eq i.node v)

-- what giving changes in the nodes
pub held_given : (ns : List Node) (k : ℕ) (n m : Node) (i : Input) → k < length ns → n ≡ slice_index_or ns k n → m ≡ record n { inputs = m.inputs } → m.inputs.items ≡ n.inputs.items ++ input_at (length n.inputs.items + 1) i ∷ []
    → map held_of (slice_set ns k m) ≡ slice_set (map held_of ns) k (given_to (held_at (map held_of ns) k) i)
held_given ns k n m i known is rest inputs =
    let was : held_at (map held_of ns) k ≡ held_of n = get_or-map held_of ns k n no_node known ∙ ap held_of (sym is) in
    let now : held_of m ≡ given_to (held_of n) i = ap held_of rest ∙ ap (λ l. record (held_of n) { inputs = l }) inputs in
    map-set held_of ns k m ∙ ap (slice_set (map held_of ns) k) (now ∙ ap (λ h. given_to h i) (sym was))

-- a list of one element over and over
same_throughout : {A : Type 0} (n i : ℕ) (a : A) → slice_index_or (replicate n a) i a ≡ a
same_throughout n i a = ⊎_elim (λ within. get_or-replicate n i a a within) (λ past. get_or_past (replicate n a) i a (omega (arith, length-replicate n a, past))) (cases_lt i n)

-- no input is for a node past those of the run
no_inputs : (nodes v n : ℕ) (is : List Input) → nodes ≤ v → AllByRecursion (λ (i : Input). (i.node < nodes) × (length i.text ≤ 512)) is → inputs_from v n is ≡ []
no_inputs nodes v n [] past known = refl
no_inputs nodes v n (i ∷ is) past known = let q : (i.node == v) ≡ false = ne_eqb i.node v (λ e. omega (arith, known.0.0)) in rw q (no_inputs nodes v n is past known.1)

inputs_early : (v n t : ℕ) (is : List Input) → AllByRecursion (λ (m : Message). m.stamp ≤ t) (inputs_from v n is)
inputs_early v n t [] = tt
inputs_early v n t (i ∷ is) = go (i.node == v) (inputs_early v (n + 1) t is) (inputs_early v n t is)
  where
    go : (b : Bool) → AllByRecursion (λ (m : Message). m.stamp ≤ t) (inputs_from v (n + 1) is) → AllByRecursion (λ (m : Message). m.stamp ≤ t) (inputs_from v n is) → AllByRecursion (λ (m : Message). m.stamp ≤ t) (if b then input_at (n + 1) i ∷ inputs_from v (n + 1) is else inputs_from v n is)
    go true more same = (omega arith, more)
    go false more same = same

-- each node has its inputs
abbrev pub AreStarted : Facts → List Held → Type 0
AreStarted f hs = (v : ℕ) → v < f.nodes → held_at hs v ≡ new_node f.nodes (inputs_from v 0 f.inputs)

-- what holds of each node of the run, and of those past it
at_start : (f : Facts) (hs : List Held) (Q : Held → ℕ → Type 0) → length hs ≡ f.nodes → AreStarted f hs → ((v : ℕ) → Q (new_node f.nodes (inputs_from v 0 f.inputs)) v) → ((v : ℕ) → f.nodes ≤ v → Q no_node v) → (v : ℕ) → Q (held_at hs v) v
at_start f hs Q width started new past v =
    ⊎_elim (λ within. subst (λ h. Q h v) (sym (started v within)) (new v)) (λ out. subst (λ h. Q h v) (sym (get_or_past hs v no_node (omega (arith, width, out)))) (past v out)) (cases_lt v f.nodes)

taken_none : (nodes u : ℕ) (b : Bool) → ◌≡◌ {A = ℕ} (if b then 0 else slice_index_or (replicate nodes 0) u 0) 0
taken_none nodes u true = refl
taken_none nodes u false = same_throughout nodes u 0

-- the nodes at the start with empty heaps
pub alike_start : (h : Handler) (f : Facts) (values : List Value) (hs : List Held) → IsWithinLimits (game_of f) → values ≡ replicate f.nodes (empty_heap f.size) → length hs ≡ f.nodes → AreStarted f hs
    → AreAlike (network_of f.size values hs) (start (game_for h f))
alike_start h f values hs limits empty width started =
    let inputs = at_start f hs (λ h v. h.inputs ≡ inputs_from v 0 f.inputs) width started (λ v. refl) (λ v past. sym (no_inputs f.nodes v 0 f.inputs past limits.inputs)) in
    let sent = λ (u v : ℕ). at_start f hs (λ h w. sent_to h v ≡ []) width started (λ w. same_throughout f.nodes v []) (λ w past. refl) u in
    let taken = λ (u v : ℕ). at_start f hs (λ h w. taken_from h u ≡ 0) width started (λ w. taken_none f.nodes u (u == outside)) (λ w past. none (u == outside)) v in
    let value : (v : ℕ) → slice_index_or values v (empty_heap f.size) ≡ empty_heap f.size = λ v. ap (λ l. slice_index_or l v (empty_heap f.size)) empty ∙ same_throughout f.nodes v (empty_heap f.size) in
    record {
      place = λ v. ap (λ x. place_of x (held_at hs v)) (value v) ∙ at_start f hs (λ h w. place_of (empty_heap f.size) h ≡ first_place (game_of f)) width started (λ w. refl) (λ w past. refl) v;
      link = λ u v. let link : List Message → List Message → ℕ → Link = λ i s t. record { sent = if u == outside then i else s; taken = t } in
          ap (λ i. link i (sent_to (held_at hs u) v) (taken_from (held_at hs v) u)) (inputs v) ∙ ap (λ s. link (inputs_from v 0 f.inputs) s (taken_from (held_at hs v) u)) (sent u v) ∙ ap (link (inputs_from v 0 f.inputs) []) (taken u v);
    }
  where
    none : (b : Bool) → ◌≡◌ {A = ℕ} (if b then 0 else 0) 0
    none true = refl
    none false = refl

new_is_early : (f : Facts) (v t : ℕ) → AreEarly t (new_node f.nodes (inputs_from v 0 f.inputs))
new_is_early f v t = record {
  stamp = omega arith;
  sent = λ w. All-same (λ (m : Message). m.stamp ≤ t) _ [] (same_throughout f.nodes w []) (All-nil (λ (m : Message). m.stamp ≤ t));
  inputs = All-from_recursion (λ (m : Message). m.stamp ≤ t) (inputs_from v 0 f.inputs) (inputs_early v 0 t f.inputs);
}

pub nodes_start : (f : Facts) (hs : List Held) → length hs ≡ f.nodes → AreStarted f hs → AreHeld f hs
nodes_start f hs width started = record {
  width = width;
  each = All-from_get_or (IsOfRun f) hs no_node (λ i within. subst (IsOfRun f) (sym (started i (omega (arith, width, within)))) (record { sent = length-replicate f.nodes []; taken = length-replicate f.nodes 0; turns = omega arith }));
  early = All-from_get_or (AreEarly (turns_made hs)) hs no_node (λ i within. subst (AreEarly (turns_made hs)) (sym (started i (omega (arith, width, within)))) (new_is_early f i (turns_made hs)));
}

pub run_start : {P : Type 0} (player : P) (f : Facts) (values : List Value) (hs : List Held) → IsWithinLimits (game_of f) → values ≡ replicate f.nodes (empty_heap f.size) → length hs ≡ f.nodes → AreStarted f hs
    → IsHeldRun (record { player = player; facts = f; values = values; nodes = hs })
run_start player f values hs limits empty width started = record {
  limits = limits;
  heaps = ap length empty ∙ length-replicate f.nodes (empty_heap f.size);
  nodes = nodes_start f hs width started;
}
