-- The rules of a script, in the order in which they are tried.
use Rattle.std.specs.Prelude.{◌≡◌, ℕ, List, [], ◌∷◌, Option, Some, None, ⊤, codes, unwrap_or, option_and_then}
use Rattle.serde_json.specs.Data.{Data}
use Rattle.ken_model.specs.declared.facts.Input.{Input}
use Rattle.ken_script.specs.declared.faults.ScriptFault.{ScriptFault}
use Rattle.ken_script.specs.declared.faults.ScriptFault.TheVariants.{Rule, Memory}
use Rattle.ken_net.specs.declared.act.LinkAct.{LinkAct}
use Rattle.ken_script.specs.declared.scripts.TheConstants.{MAX_CUTS, MAX_ACTS, MAX_OUT_FAILS}
use Rattle.ken_script.specs.declared.scripts.DiskCut.{DiskCut}
use Rattle.ken_script.specs.declared.scripts.OutFail.{OutFail}
use Rattle.ken_script.specs.Keys.{unknown_key, nodes_of, kind_in, pages_of, seed_of, rounds_of, turns_of, restarts_of, items_in, list_under}
use Rattle.ken_script.specs.Lists.{all_of, wrong_item}
use Rattle.ken_script.specs.Inputs.{inputs_of, wrong_input, long_text, odd_text}
use Rattle.ken_script.specs.Mishaps.{cut_of, cut_spot, link_act_of, link_spot, out_fail_of, out_spot}
use Rattle.ken_script.specs.Object.{IsObject}

-- that place, where there is no value
abbrev pub missing : {T : Type 0} → ℕ → Option T → Option ℕ
missing place None = Some place
missing place (Some value) = None

-- the place of a fault in a list, and 0 where there is no list
abbrev pub item_fault : {T : Type 0} → (T → Option ℕ) → Option T → Option ℕ
item_fault fault None = Some 0
item_fault fault (Some items) = fault items

-- how many nodes an item may name: none, where the script doesn't say
abbrev pub node_count : Data → ℕ
node_count d = unwrap_or (nodes_of d) 0

-- the inputs of the script, if each item is one
abbrev pub inputs_in : Data → Option (List Input)
inputs_in d = option_and_then (inputs_of (node_count d)) (items_in d)

-- the cuts of the script, if each item is one
abbrev pub cuts_in : Data → Option (List DiskCut)
cuts_in d = option_and_then (all_of (cut_of (node_count d))) (list_under (codes "cuts") d)

-- the acts of the script under a key, if each item is one
abbrev pub acts_in : List ℕ → Data → Option (List LinkAct)
acts_in key d = option_and_then (all_of (link_act_of (node_count d))) (list_under key d)

-- the failing calls of outlets of the script, if each item is one
abbrev pub out_fails_in : Data → Option (List OutFail)
out_fails_in d = option_and_then (all_of (out_fail_of (node_count d))) (list_under (codes "outlets") d)

-- the first rule that is broken, with its place
abbrev pub first_of : List (ℕ × Option ℕ) → Option (ℕ × ℕ)
first_of [] = None
first_of ((rule, None) ∷ more) = first_of more
first_of ((rule, Some index) ∷ more) = Some (rule, index)

-- each rule of an object by its number, with the least place at which it is broken: 2, each key is known; 3, the number
-- of nodes; 4, the kind; 5, the pages of each heap; 6, the seed; 7, the rounds of threads, at place 0, the most
-- turns of a node, at place 1, and its most restarts, at place 2; 8, the items of `inputs`; 9, the lengths of their texts; 10, the bytes of their texts; 11, the items
-- of `cuts`; 12, of `mail`; 13, of `acks`; 14, of `outlets`
abbrev pub rules_of : Data → List (ℕ × Option ℕ)
rules_of d =
    (2, unknown_key d)
    ∷ (3, missing 0 (nodes_of d))
    ∷ (4, missing 0 (kind_in d))
    ∷ (5, missing 0 (pages_of d))
    ∷ (6, missing 0 (seed_of d))
    ∷ (7, missing 0 (rounds_of d))
    ∷ (7, missing 1 (turns_of d))
    ∷ (7, missing 2 (restarts_of d))
    ∷ (8, item_fault (wrong_input (node_count d)) (items_in d))
    ∷ (9, option_and_then long_text (inputs_in d))
    ∷ (10, option_and_then odd_text (inputs_in d))
    ∷ (11, item_fault (wrong_item (cut_of (node_count d)) cut_spot MAX_CUTS) (list_under (codes "cuts") d))
    ∷ (12, item_fault (wrong_item (link_act_of (node_count d)) link_spot MAX_ACTS) (list_under (codes "mail") d))
    ∷ (13, item_fault (wrong_item (link_act_of (node_count d)) link_spot MAX_ACTS) (list_under (codes "acks") d))
    ∷ (14, item_fault (wrong_item (out_fail_of (node_count d)) out_spot MAX_OUT_FAILS) (list_under (codes "outlets") d))
    ∷ []

-- the first rule that an object breaks, with the least place at which it does
abbrev pub fault_in : Data → Option (ℕ × ℕ)
fault_in d = first_of (rules_of d)

-- a text breaks rule 1 if it is no object that is short enough, and else the first rule that the object breaks
pub data BreaksBy (fault : Data → Option (ℕ × ℕ)) (b : List ℕ) : ℕ → ℕ → Type 0 where
  no_object : ((d : Data) → IsObject b d → ⊥) → BreaksBy fault b 1 0
  in_object : (d : Data) (rule index : ℕ) → IsObject b d → fault d ≡ Some (rule, index) → BreaksBy fault b rule index

abbrev pub Breaks : List ℕ → ℕ → ℕ → Type 0
Breaks = BreaksBy fault_in

-- a fault is right about a text: the rule that it names is the one that the text breaks, and there
abbrev pub IsFaultOf : List ℕ → ScriptFault → Type 0
IsFaultOf b (Rule rule index) = Breaks b rule index
IsFaultOf b Memory = ⊤

-- the text is no object that is short enough
abbrev pub IsNoObject : List ℕ → ScriptFault → Type 0
IsNoObject b (Rule rule index) = (rule ≡ 1) × (index ≡ 0) × ((d : Data) → IsObject b d → ⊥)
IsNoObject b Memory = ⊤

-- the same of an object
abbrev pub IsFaultIn : Data → ScriptFault → Type 0
IsFaultIn d (Rule rule index) = fault_in d ≡ Some (rule, index)
IsFaultIn d Memory = ⊤

-- the same of one rule, where it is broken at that place
abbrev pub Names : ℕ → Option ℕ → ScriptFault → Type 0
Names number place (Rule rule index) = (rule ≡ number) × (place ≡ Some index)
Names number place Memory = ⊤
