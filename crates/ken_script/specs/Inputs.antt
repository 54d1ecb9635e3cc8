-- The inputs of a script, and the first item at which one of their rules is broken.
use Rattle.std.specs.Prelude.{ℕ, ◌&&◌, List, length, Bool, not, position, nat_lt, nat_le, Option, is_none, option_map, option_and_then}
use Rattle.std.specs.List.{list_all}
use Rattle.serde_json.specs.Data.{Data}
use Rattle.serde_json.specs.Find.{as_array, as_str}
use Rattle.ken_model.specs.declared.facts.Input.{Input}
use Rattle.ken_model.specs.declared.facts.TheConstants.{MAX_INPUTS, MAX_TEXT}
use Rattle.ken_script.specs.Keys.{whole, below}
use Rattle.ken_script.specs.Lists.{both, all_of, least, overflow}

-- the number of one of the nodes
abbrev pub node_of : ℕ → Data → Option ℕ
node_of nodes d = option_and_then (below nodes) (whole d)

-- an input of its parts
abbrev pub input : ℕ → List ℕ → Input
input node text = record { node = node; text = text }

-- `[node, text]`: a list of the number of one of the nodes and a text
abbrev pub input_of : ℕ → Data → Option Input
input_of nodes d = option_and_then (λ p. option_and_then (λ node. option_map (input node) (as_str p.1)) (node_of nodes p.0)) (option_and_then both (as_array d))

-- all items as inputs, if each is one
abbrev pub inputs_of : ℕ → List Data → Option (List Input)
inputs_of nodes ds = all_of (input_of nodes) ds

-- the first item that is no input, or that is one too many
abbrev pub wrong_input : ℕ → List Data → Option ℕ
wrong_input nodes ds = least (position (λ d. is_none (input_of nodes d)) ds) (overflow MAX_INPUTS ds)

-- the first input with a text that is too long
abbrev pub long_text : List Input → Option ℕ
long_text inputs = position (λ (i : Input). nat_lt MAX_TEXT (length i.text)) inputs

-- a space or a printed character of ASCII
abbrev pub is_plain : ℕ → Bool
is_plain byte = nat_le 0x20 byte && nat_le byte 0x7e

-- the first input with a text that has another byte
abbrev pub odd_text : List Input → Option ℕ
odd_text inputs = position (λ (i : Input). not (list_all is_plain i.text)) inputs
