-- What the words of a command line ask for.
use Rattle.std.specs.Prelude.{ℕ, ◌^◌, ◌-◌, ◌==◌, ◌&&◌, Bool, true, not, nat_lt, nat_le, length, List, [], ◌∷◌, if◌then◌else◌, Option, Some, None, option_map, codes}
use Rattle.std.specs.Str.{bytes_eq}
use Rattle.ken_model.specs.declared.facts.TheConstants.{MAX_INPUTS, MAX_NODES, MAX_PAGES}
use Rattle.ken_script.specs.declared.scripts.TheConstants.{LIMIT, MAX_ROUNDS}
use Rattle.ken_words.specs.declared.commands.Command.{Command}
use Rattle.ken_words.specs.declared.commands.Command.TheVariants.{Run, Check, Soak, Torment, Save, Dump}
use Rattle.ken_words.specs.Numbers.{number_in}

-- the length of a script
abbrev pub length_in : List ℕ → Option ℕ
length_in = number_in 0 LIMIT

abbrev pub seed_in : List ℕ → Option ℕ
seed_in = number_in 0 (2 ^ 64 - 1)

abbrev pub nodes_in : List ℕ → Option ℕ
nodes_in = number_in 1 MAX_NODES

abbrev pub inputs_in : List ℕ → Option ℕ
inputs_in = number_in 0 MAX_INPUTS

abbrev pub rounds_in : List ℕ → Option ℕ
rounds_in = number_in 0 MAX_ROUNDS

abbrev pub node_in : List ℕ → Option ℕ
node_in = number_in 0 (MAX_NODES - 1)

abbrev pub pages_in : List ℕ → Option ℕ
pages_in = number_in 1 MAX_PAGES

-- a word that doesn't begin with a dash
abbrev pub is_undashed : List ℕ → Bool
is_undashed [] = true
is_undashed (first ∷ rest) = not (first == 45)

-- the prefix of files: 1 to 200 bytes, the first of which isn't a dash
abbrev pub is_prefix : List ℕ → Bool
is_prefix word = nat_lt 0 (length word) && nat_le (length word) 200 && is_undashed word

-- a soak, where all four numbers are in range
abbrev pub soak_of : Option ℕ → Option ℕ → Option ℕ → Option ℕ → Option Command
soak_of (Some seed) (Some nodes) (Some inputs) (Some rounds) = Some (Soak seed nodes inputs rounds)
soak_of _ _ _ _ = None

-- a dump, where there is a prefix, all three numbers are in range and the node is one of the nodes
abbrev pub dump_of : Bool → Option ℕ → Option ℕ → Option ℕ → Option Command
dump_of true (Some node) (Some nodes) (Some pages) = if nat_lt node nodes then Some (Dump node nodes pages) else None
dump_of _ _ _ _ = None

-- the program's name, a command's name and its numbers, or a prefix and numbers; other words ask for nothing
abbrev pub command_of : List (List ℕ) → Option Command
command_of (name ∷ word ∷ []) = if bytes_eq word (codes "run") then Some Run else None
command_of (name ∷ word ∷ value ∷ []) =
    if bytes_eq word (codes "check") then option_map Check (length_in value)
    else (if bytes_eq word (codes "torment") then option_map Torment (seed_in value)
    else (if bytes_eq word (codes "save") then (if is_prefix value then Some Save else None) else None))
command_of (name ∷ word ∷ a ∷ b ∷ c ∷ d ∷ []) =
    if bytes_eq word (codes "soak") then soak_of (seed_in a) (nodes_in b) (inputs_in c) (rounds_in d)
    else (if bytes_eq word (codes "dump") then dump_of (is_prefix a) (node_in b) (nodes_in c) (pages_in d) else None)
command_of _ = None

-- the third word, and nothing where there is none
abbrev pub prefix_of : List (List ℕ) → List ℕ
prefix_of (name ∷ word ∷ prefix ∷ rest) = prefix
prefix_of _ = []
