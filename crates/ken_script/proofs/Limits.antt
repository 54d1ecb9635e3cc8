-- The facts of a script that breaks no rule are within the limits of a run.
use Rattle.std.proofs.Common.{◌≡◌, ℕ, suc, ◌+◌, ◌<◌, ◌≤◌, ◌&&◌, List, [], ◌∷◌, length, Bool, true, false, not, cond, if◌then◌else◌, nat_lt, position, Option, Some, None, is_none, option_map, option_and_then, unwrap_or, codes, lit≤, refl, ap, arith}
use Rattle.std.specs.List.{AllByRecursion, list_all, prefix_len}
use Rattle.std.proofs.lemmas.Bool.Decides.{nat_tests}
use Rattle.serde_json.specs.Data.{Data}
use Rattle.serde_json.specs.Find.{get, as_str, as_array}
use Rattle.ken_model.specs.declared.facts.Input.{Input}
use Rattle.ken_model.specs.declared.facts.TheConstants.{MAX_NODES, MAX_PAGES, MAX_TURNS, MAX_INPUTS, MAX_TEXT}
use Rattle.ken_model.specs.Limits.{IsPlain, ArePlain, IsWithinLimits, IsPlainRun}
use Rattle.ken_model.specs.Game.{game_of}
use Rattle.ken_script.specs.declared.scripts.TheConstants.{DEFAULT_PAGES, DEFAULT_TURNS}
use Rattle.ken_script.specs.declared.scripts.Script.{Script}
use Rattle.ken_script.specs.Keys.{whole, within, taken_or, items_in}
use Rattle.ken_script.specs.Lists.{both, least, overflow}
use Rattle.ken_script.specs.Inputs.{node_of, input, input_of, inputs_of, wrong_input, long_text, is_plain, odd_text}
use Rattle.ken_script.specs.Faults.{first_of, rules_of, item_fault, node_count}
use Rattle.ken_script.specs.Says.{States}
use Rattle.ken_script.proofs.Lists.{all_of-each, length-all_of, false_of_not, true_of_not}

none_broken : (rules : List (ℕ × Option ℕ)) → first_of rules ≡ None → AllByRecursion (λ r. r.1 ≡ None) rules
none_broken [] e = tt
none_broken ((rule, None) ∷ more) e = (refl, none_broken more e)
none_broken ((rule, Some place) ∷ more) e = absurd cc

bounded : (least most n m : ℕ) → within least most m ≡ Some n → (least ≤ n) × (n ≤ most)
bounded least most n m e = grind (arith, nat_tests)

pub within_bounds : (least most n : ℕ) (o : Option ℕ) → option_and_then (within least most) o ≡ Some n → (least ≤ n) × (n ≤ most)
within_bounds least most n None e = absurd cc
within_bounds least most n (Some m) e = bounded least most n m e

pub taken_or_bounds : (absent least most n : ℕ) (value : Option Data) → least ≤ absent → absent ≤ most
    → taken_or absent (λ v. option_and_then (within least most) (whole v)) value ≡ Some n → (least ≤ n) × (n ≤ most)
taken_or_bounds absent least most n None low high e = let same : absent ≡ n = cc in rw (← same) (low, high)
taken_or_bounds absent least most n (Some v) low high e = within_bounds least most n (whole v) e

-- a place that isn't there is past the end
past_end : (place end : ℕ) → ◌≡◌ {A = Option ℕ} (if nat_lt place end then Some place else None) None → end ≤ place
past_end place end e = grind (arith, nat_tests)

one_more : (b : Bool) (n m : ℕ) → suc n ≤ cond b (1 + m) 0 → (b ≡ true) × (n ≤ m)
one_more true n m h = (refl, omega arith)
one_more false n m h = absurd (omega arith)

all_fail : {T : Type 0} (p : T → Bool) (xs : List T) → length xs ≤ prefix_len (λ x. not (p x)) xs → AllByRecursion (λ x. p x ≡ false) xs
all_fail p [] h = tt
all_fail p (x ∷ xs) h =
    let here = one_more (not (p x)) (length xs) (prefix_len (λ y. not (p y)) xs) h in
    (false_of_not (p x) here.0, all_fail p xs here.1)

-- a list in which no place passes
none_passes : {T : Type 0} (p : T → Bool) (xs : List T) → position p xs ≡ None → AllByRecursion (λ x. p x ≡ false) xs
none_passes p xs e = all_fail p xs (past_end (prefix_len (λ x. not (p x)) xs) (length xs) e)

node_below : (nodes n m : ℕ) → ◌≡◌ {A = Option ℕ} (if nat_lt n nodes then Some n else None) (Some m) → m < nodes
node_below nodes n m e = grind (arith, nat_tests)

pub node_of_below : (nodes node : ℕ) (o : Option ℕ) → option_and_then (λ n. if nat_lt n nodes then Some n else None) o ≡ Some node → node < nodes
node_of_below nodes node None e = absurd cc
node_of_below nodes node (Some n) e = node_below nodes n node e

made_of : (nodes : ℕ) (node : Option ℕ) (text : Option (List ℕ)) (x : Input) → ((n : ℕ) → node ≡ Some n → n < nodes) → option_and_then (λ n. option_map (input n) text) node ≡ Some x → x.node < nodes
made_of nodes None text x below e = absurd cc
made_of nodes (Some n) None x below e = absurd cc
made_of nodes (Some n) (Some text) x below e = let made : input n text ≡ x = cc in rw (← made) (below n refl)

paired : (nodes : ℕ) (pair : Option (Data × Data)) (x : Input) → option_and_then (λ p. option_and_then (λ node. option_map (input node) (as_str p.1)) (node_of nodes p.0)) pair ≡ Some x → x.node < nodes
paired nodes None x e = absurd cc
paired nodes (Some p) x e = made_of nodes (node_of nodes p.0) (as_str p.1) x (λ n is. node_of_below nodes n (whole p.0) is) e

-- an input is for one of the nodes
input_of-node : (nodes : ℕ) (d : Data) (x : Input) → input_of nodes d ≡ Some x → x.node < nodes
input_of-node nodes d x e = paired nodes (option_and_then both (as_array d)) x e

inputs_of-nodes : (nodes : ℕ) (ds : List Data) (xs : List Input) → inputs_of nodes ds ≡ Some xs → AllByRecursion (λ (i : Input). i.node < nodes) xs
inputs_of-nodes nodes ds xs e = all_of-each (input_of nodes) (λ (i : Input). i.node < nodes) (input_of-node nodes) ds xs e

second_none : (a b : Option ℕ) → least a b ≡ None → b ≡ None
second_none None b e = e
second_none (Some i) None e = refl
second_none (Some i) (Some j) e = absurd cc

items_within : (nodes : ℕ) (items : Option (List Data)) (xs : List Input) → item_fault (wrong_input nodes) items ≡ None → option_and_then (inputs_of nodes) items ≡ Some xs
    → (length xs ≤ MAX_INPUTS) × AllByRecursion (λ (i : Input). i.node < nodes) xs
items_within nodes None xs right e = absurd cc
items_within nodes (Some ds) xs right e =
    let few : length ds ≤ MAX_INPUTS = past_end MAX_INPUTS (length ds) (second_none (position (λ d. is_none (input_of nodes d)) ds) (overflow MAX_INPUTS ds) right) in
    (rw (length-all_of (input_of nodes) ds xs e) few, inputs_of-nodes nodes ds xs e)

short_text : (room n : ℕ) → nat_lt room n ≡ false → n ≤ room
short_text room n e = grind (arith, nat_tests)

both_all : (nodes : ℕ) (xs : List Input) → AllByRecursion (λ (i : Input). i.node < nodes) xs → AllByRecursion (λ (i : Input). nat_lt MAX_TEXT (length i.text) ≡ false) xs
    → AllByRecursion (λ (i : Input). (i.node < nodes) × (length i.text ≤ MAX_TEXT)) xs
both_all nodes [] of_run short = tt
both_all nodes (x ∷ xs) of_run short = ((of_run.0, short_text MAX_TEXT (length x.text) short.0), both_all nodes xs of_run.1 short.1)

plain_byte : (byte : ℕ) → is_plain byte ≡ true → IsPlain byte
plain_byte byte e = grind (arith, nat_tests)

two_true : (a b : Bool) → a && b ≡ true → (a ≡ true) × (b ≡ true)
two_true true b e = (refl, e)
two_true false b e = absurd cc

plain_bytes : (bytes : List ℕ) → list_all is_plain bytes ≡ true → ArePlain bytes
plain_bytes [] e = tt
plain_bytes (byte ∷ bytes) e =
    let each = two_true (is_plain byte) (list_all is_plain bytes) e in
    (plain_byte byte each.0, plain_bytes bytes each.1)

plain_texts : (xs : List Input) → AllByRecursion (λ (i : Input). not (list_all is_plain i.text) ≡ false) xs → AllByRecursion (λ (i : Input). ArePlain i.text) xs
plain_texts [] h = tt
plain_texts (x ∷ xs) h = (plain_bytes x.text (true_of_not (list_all is_plain x.text) h.0), plain_texts xs h.1)

module _ (d : Data) (s : Script) (states : States d s) where
  pub limits_of : IsWithinLimits (game_of s.facts)
  limits_of =
      let unbroken = none_broken (rules_of d) states.right in
      let nodes = within_bounds 1 MAX_NODES s.facts.nodes (option_and_then whole (get (codes "nodes") d)) states.nodes in
      let turns = taken_or_bounds DEFAULT_TURNS 1 MAX_TURNS s.facts.turns (get (codes "turns") d) (lit≤ tt) (lit≤ tt) states.turns in
      let pages = taken_or_bounds DEFAULT_PAGES 1 MAX_PAGES states.pages (get (codes "pages") d) (lit≤ tt) (lit≤ tt) states.told_pages in
      let count : node_count d ≡ s.facts.nodes = ap (λ o. unwrap_or o 0) states.nodes in
      let items = items_within (node_count d) (items_in d) s.facts.inputs unbroken.1.1.1.1.1.1.1.1.0 states.inputs in
      let long : long_text s.facts.inputs ≡ None = rw states.inputs at unbroken.1.1.1.1.1.1.1.1.1.0 in
      record {
        some_node = nodes.0;
        few_nodes = nodes.1;
        some_turn = turns.0;
        few_turns = turns.1;
        pages = (states.pages, pages.0, pages.1, states.size);
        few_inputs = items.0;
        inputs = rw count at (both_all (node_count d) s.facts.inputs items.1 (none_passes (λ (i : Input). nat_lt MAX_TEXT (length i.text)) s.facts.inputs long));
      }

  pub plain_run_of : IsPlainRun (game_of s.facts)
  plain_run_of =
      let unbroken = none_broken (rules_of d) states.right in
      let odd : odd_text s.facts.inputs ≡ None = rw states.inputs at unbroken.1.1.1.1.1.1.1.1.1.1.0 in
      plain_texts s.facts.inputs (none_passes (λ (i : Input). not (list_all is_plain i.text)) s.facts.inputs odd)
