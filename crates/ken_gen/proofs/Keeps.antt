-- A generated script keeps the rules of a script that is read.
use Rattle.std.proofs.Common.{◌≡◌, ℕ, zero, suc, ◌+◌, ◌<◌, ◌≤◌, List, [], ◌∷◌, ◌++◌, length, Bool, true, false, if◌then◌else◌, decimal, refl, ap, lit≤, lit<, arith}
use Rattle.std.specs.List.{AllByRecursion, list_any}
use Rattle.std.proofs.lemmas.Fmt.{length-decimal-le}
use Rattle.std.proofs.lemmas.List.Elements.{recursion_from_All}
use Rattle.ken_model.specs.declared.facts.Input.{Input}
use Rattle.ken_model.specs.declared.facts.TheConstants.{MAX_INPUTS, MAX_NODES, MAX_TEXT}
use Rattle.ken_model.specs.Limits.{IsPlain, ArePlain}
use Rattle.ken_num.proofs.Decimals.{All-decimal}
use Rattle.ken_net.specs.declared.act.LinkAct.{LinkAct}
use Rattle.ken_script.specs.declared.scripts.DiskCut.{DiskCut}
use Rattle.ken_script.specs.declared.scripts.TheConstants.{DISKS, MAX_COUNT, MAX_HOLD, MAX_ROUNDS}
use Rattle.ken_script.specs.Within.{IsShortAct, KeepsRules}
use Rattle.ken_gen.specs.Draws.{drawn, past}
use Rattle.ken_gen.specs.Inputs.{input_at, past_input, inputs_from, past_inputs}
use Rattle.ken_gen.specs.Mishaps.{without_repeats, cut_at, past_cut, cuts_from, past_cuts, is_same_call, act_of, act_at, link_act_at, past_link_act, acts_from, past_acts, is_same_put}
use Rattle.ken_gen.specs.Generated.{script_of}

pub drawn_below : (bound x : ℕ) → 0 < bound → drawn bound x < bound
unfolding drawn
drawn_below bound x some = omega arith

-- what holds of each item of a list holds of those that are left
kept_all : {T : Type 0} (P : T → Type 0) (is_same : T → T → Bool) (earlier xs : List T) → AllByRecursion P xs → AllByRecursion P (without_repeats is_same earlier xs)
unfolding without_repeats
kept_all P is_same earlier [] all = tt
kept_all P is_same earlier (x ∷ xs) all =
    elim (list_any (is_same x) earlier) as (λ b. AllByRecursion P (if b then without_repeats is_same earlier xs else x ∷ without_repeats is_same (earlier ++ x ∷ []) xs)) [
      | true ↦ kept_all P is_same earlier xs all.1
      | false ↦ (all.0, kept_all P is_same (earlier ++ x ∷ []) xs all.1)
    ]

-- ---- inputs

text_short : (x : ℕ) → length (decimal (drawn 1000 x)) ≤ MAX_TEXT
text_short x =
    let n : ℕ = drawn 1000 x in
    let small : drawn 1000 x < 1000 = drawn_below 1000 x (lit< tt) in
    omega (arith, length-decimal-le 3 n (omega arith) (omega (arith, small)) (omega arith))

text_plain : (x : ℕ) → ArePlain (decimal (drawn 1000 x))
text_plain x =
    let n : ℕ = drawn 1000 x in
    let small : drawn 1000 x < 1000 = drawn_below 1000 x (lit< tt) in
    recursion_from_All IsPlain (decimal n) (All-decimal IsPlain (λ b digit. (omega arith, omega arith)) n (omega arith))

pub inputs_length : (nodes count x : ℕ) → length (inputs_from nodes count x) ≡ count
unfolding inputs_from
inputs_length nodes zero x = refl
inputs_length nodes (suc count) x = ap (λ n. suc n) (inputs_length nodes count (past_input x))

pub inputs_within : (nodes count x : ℕ) → 0 < nodes → AllByRecursion (λ (i : Input). (i.node < nodes) × (length i.text ≤ MAX_TEXT)) (inputs_from nodes count x)
unfolding inputs_from input_at
inputs_within nodes zero x some = tt
inputs_within nodes (suc count) x some = ((drawn_below nodes x some, text_short (past x)), inputs_within nodes count (past_input x) some)

inputs_plain : (nodes count x : ℕ) → AllByRecursion (λ (i : Input). ArePlain i.text) (inputs_from nodes count x)
unfolding inputs_from input_at
inputs_plain nodes zero x = tt
inputs_plain nodes (suc count) x = (text_plain (past x), inputs_plain nodes count (past_input x))

-- ---- what is to fail

cuts_within : (nodes count x : ℕ) → 0 < nodes → AllByRecursion (λ (c : DiskCut). (c.node < nodes) × (c.disk < DISKS)) (cuts_from nodes count x)
unfolding cuts_from cut_at
cuts_within nodes zero x some = tt
cuts_within nodes (suc count) x some =
    let disk : drawn 2 (past x) < 2 = drawn_below 2 (past x) (lit< tt) in
    ((drawn_below nodes x some, omega arith), cuts_within nodes count (past_cut x) some)

act_short : (n puts : ℕ) → puts ≤ MAX_HOLD → IsShortAct (act_of n puts)
act_short zero puts few = tt
act_short (suc zero) puts few = tt
act_short (suc (suc n)) puts few = few

pub act_at_short : (x : ℕ) → IsShortAct (act_at x)
unfolding act_at
act_at_short x =
    let held : drawn 4 (past x) < 4 = drawn_below 4 (past x) (lit< tt) in
    act_short (drawn 3 x) (1 + drawn 4 (past x)) (omega arith)

acts_within : (nodes count x : ℕ) → 0 < nodes → AllByRecursion (λ (a : LinkAct). (a.from < nodes) × (a.to < nodes) × (a.n ≤ MAX_COUNT) × IsShortAct a.act) (acts_from nodes count x)
unfolding acts_from link_act_at
acts_within nodes zero x some = tt
acts_within nodes (suc count) x some =
    let put : drawn 100 (past (past x)) < 100 = drawn_below 100 (past (past x)) (lit< tt) in
    ((drawn_below nodes x some, drawn_below nodes (past x) some, omega arith, act_at_short (past (past (past x)))), acts_within nodes count (past_link_act x) some)

pub keeps_rules : (seed nodes inputs rounds : ℕ) → 0 < nodes → nodes ≤ MAX_NODES → inputs ≤ MAX_INPUTS → rounds ≤ MAX_ROUNDS → KeepsRules (script_of seed nodes inputs rounds)
keeps_rules seed nodes inputs rounds some few_nodes few_inputs few_rounds =
    let at_cuts : ℕ = past_inputs inputs seed in
    let at_mail : ℕ = past_cuts 6 at_cuts in
    let at_acks : ℕ = past_acts 32 at_mail in
    let acts_keep : (count x : ℕ) → AllByRecursion (λ (a : LinkAct). (a.from < nodes) × (a.to < nodes) × (a.n ≤ MAX_COUNT) × IsShortAct a.act) (without_repeats is_same_put [] (acts_from nodes count x)) =
    λ count x. kept_all (λ (a : LinkAct). (a.from < nodes) × (a.to < nodes) × (a.n ≤ MAX_COUNT) × IsShortAct a.act) is_same_put [] (acts_from nodes count x) (acts_within nodes count x some) in
    record {
      limits = record {
        some_node = some;
        few_nodes = few_nodes;
        some_turn = lit< tt;
        few_turns = lit≤ tt;
        pages = (4, lit< tt, lit≤ tt, refl);
        few_inputs = omega (arith, inputs_length nodes inputs seed);
        inputs = inputs_within nodes inputs seed some;
      };
      plain = inputs_plain nodes inputs seed;
      rounds = few_rounds;
      restarts = lit≤ tt;
      cuts = kept_all (λ (c : DiskCut). (c.node < nodes) × (c.disk < DISKS)) is_same_call [] (cuts_from nodes 6 at_cuts) (cuts_within nodes 6 at_cuts some);
      mail = acts_keep 32 at_mail;
      acks = acts_keep 16 at_acks;
      outlets = tt;
    }
