-- The keys of a script, and what stands under each.
use Rattle.std.specs.Prelude.{ℕ, ◌&&◌, List, [], ◌∷◌, Bool, not, if◌then◌else◌, nat_le, nat_lt, bytes_eq, codes, position, Option, Some, None, option_map, option_and_then}
use Rattle.std.specs.List.{list_any}
use Rattle.serde_json.specs.Data.{Data, Items, no_items, item, Members, no_members, member}
use Rattle.serde_json.specs.Find.{get, as_object, as_array, as_str, as_number, as_u64}
use Rattle.ken_model.specs.declared.kinds.Kind.{Kind}
use Rattle.ken_model.specs.declared.facts.TheConstants.{MAX_NODES, MAX_PAGES, MAX_TURNS}
use Rattle.ken_model.specs.Kinds.{kind_of}
use Rattle.ken_script.specs.declared.scripts.TheConstants.{DEFAULT_PAGES, DEFAULT_SEED, DEFAULT_ROUNDS, DEFAULT_TURNS, DEFAULT_RESTARTS, MAX_RESTARTS, MAX_ROUNDS}

-- the keys that a script may have
abbrev pub keys : List (List ℕ)
keys =
    codes "nodes" ∷ codes "kind" ∷ codes "pages" ∷ codes "seed" ∷ codes "rounds" ∷ codes "turns"
    ∷ codes "inputs" ∷ codes "restarts" ∷ codes "cuts" ∷ codes "mail" ∷ codes "acks" ∷ codes "outlets" ∷ []

-- whether a key is one of them
abbrev pub is_key : List ℕ → Bool
is_key name = list_any (bytes_eq name) keys

-- the keys of an object, which has each once and keeps them in byte order
abbrev pub keys_in : Members → List (List ℕ)
keys_in no_members = []
keys_in (member name value more) = name ∷ keys_in more

-- the place of the first key that isn't known
abbrev pub unknown_key : Data → Option ℕ
unknown_key d = option_and_then (λ members. position (λ name. not (is_key name)) (keys_in members)) (as_object d)

-- a whole number: no point, no exponent, no sign, and below 2^64
abbrev pub whole : Data → Option ℕ
whole d = option_and_then as_u64 (as_number d)

-- the number, if it is in that range
abbrev pub within : ℕ → ℕ → ℕ → Option ℕ
within least most n = if nat_le least n && nat_le n most then Some n else None

-- the number, if it is below that end
abbrev pub below : ℕ → ℕ → Option ℕ
below end n = if nat_lt n end then Some n else None

-- the number of nodes, if `nodes` is one that a run can have
abbrev pub nodes_of : Data → Option ℕ
nodes_of d = option_and_then (within 1 MAX_NODES) (option_and_then whole (get (codes "nodes") d))

-- the kind, if `kind` is the name of one
abbrev pub kind_in : Data → Option Kind
kind_in d = option_and_then kind_of (option_and_then as_str (get (codes "kind") d))

-- what stands under a key, if it can be taken; where the key is absent, what then counts
abbrev pub taken_or : {T : Type 0} → T → (Data → Option T) → Option Data → Option T
taken_or absent take None = Some absent
taken_or absent take (Some value) = take value

-- the pages of each heap, if `pages` is absent or a number that a heap can have
abbrev pub pages_of : Data → Option ℕ
pages_of d = taken_or DEFAULT_PAGES (λ value. option_and_then (within 1 MAX_PAGES) (whole value)) (get (codes "pages") d)

-- where the random words start, if `seed` is absent or a whole number
abbrev pub seed_of : Data → Option ℕ
seed_of d = taken_or DEFAULT_SEED whole (get (codes "seed") d)

-- the rounds of threads before a run is drained, if `rounds` is absent or a number that a run can have
abbrev pub rounds_of : Data → Option ℕ
rounds_of d = taken_or DEFAULT_ROUNDS (λ value. option_and_then (within 0 MAX_ROUNDS) (whole value)) (get (codes "rounds") d)

-- the most turns of a node, if `turns` is absent or a number that a run can have
abbrev pub turns_of : Data → Option ℕ
turns_of d = taken_or DEFAULT_TURNS (λ value. option_and_then (within 1 MAX_TURNS) (whole value)) (get (codes "turns") d)

-- the most restarts of a node, if `restarts` is absent or a number that a run can have
abbrev pub restarts_of : Data → Option ℕ
restarts_of d = taken_or DEFAULT_RESTARTS (λ value. option_and_then (within 0 MAX_RESTARTS) (whole value)) (get (codes "restarts") d)

-- the items of an array
abbrev pub listed : Items → List Data
listed no_items = []
listed (item d more) = d ∷ listed more

-- the items of `inputs`, if that is an array
abbrev pub items_in : Data → Option (List Data)
items_in d = option_map listed (option_and_then as_array (get (codes "inputs") d))

-- the items under another key, if that is absent or an array; where it is absent there are none
abbrev pub list_under : List ℕ → Data → Option (List Data)
list_under key d = taken_or [] (λ value. option_map listed (as_array value)) (get key d)
