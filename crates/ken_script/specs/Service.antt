-- The script of a service of one's own, which has no kind.
use Rattle.std.specs.Prelude.{◌≡◌, ℕ, ◌&&◌, List, ◌∷◌, Bool, not, bytes_eq, codes, position, unwrap_or, Option, Some, None, option_and_then, option_map, ⊤}
use Rattle.serde_json.specs.Data.{Data, Members, object, string, put}
use Rattle.serde_json.specs.Find.{as_object}
use Rattle.ken_script.specs.declared.faults.ScriptFault.{ScriptFault}
use Rattle.ken_script.specs.declared.faults.ScriptFault.TheVariants.{Rule, Memory}
use Rattle.ken_script.specs.declared.scripts.Script.{Script}
use Rattle.ken_script.specs.Faults.{BreaksBy, first_of, rules_of}
use Rattle.ken_script.specs.Keys.{is_key, keys_in}
use Rattle.ken_script.specs.Says.{SaysBy, States}

-- whether such a script may have a key
abbrev pub is_service_key : List ℕ → Bool
is_service_key name = is_key name && not (bytes_eq name (codes "kind"))

-- the place of the first key that it may not have
abbrev pub foreign_key : Data → Option ℕ
foreign_key d = option_and_then (λ members. position (λ name. not (is_service_key name)) (keys_in members)) (as_object d)

-- a kind among members
abbrev pub kind_among : Members → Data
kind_among members = object (put (codes "kind") (string (codes "ring")) members)

-- the object with a kind, for which nobody asks
abbrev pub with_kind : Data → Data
with_kind d = unwrap_or (option_map kind_among (as_object d)) d

-- the first rule that such an object breaks, with the least place: 2, each key is one that it may have; then those of an object with a kind
abbrev pub service_fault : Data → Option (ℕ × ℕ)
service_fault d = first_of ((2, foreign_key d) ∷ rules_of (with_kind d))

-- the object breaks no rule, and the script is what stands under its keys, with a kind for which nobody asks
pub record StatesService (d : Data) (s : Script) : Type 0 where
  pub keys : foreign_key d ≡ None
  pub states : States (with_kind d) s

abbrev pub SaysService : List ℕ → Script → Type 0
SaysService = SaysBy StatesService

abbrev pub BreaksService : List ℕ → ℕ → ℕ → Type 0
BreaksService = BreaksBy service_fault

-- a fault is right about a text: the rule that it names is the one that the text breaks, and there
abbrev pub IsServiceFaultOf : List ℕ → ScriptFault → Type 0
IsServiceFaultOf b (Rule rule index) = BreaksService b rule index
IsServiceFaultOf b Memory = ⊤
