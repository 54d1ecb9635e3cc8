-- The text of a script.
use Rattle.std.specs.Prelude.{◌≡◌, ℕ, ◌≤◌, List, length, Some, true, is_some, IsUtf8}
use Rattle.serde_json.specs.Data.{Data}
use Rattle.serde_json.specs.Read.{read}
use Rattle.serde_json.specs.Find.{as_object}
use Rattle.ken_script.specs.declared.scripts.TheConstants.{LIMIT}

-- the bytes are the JSON text of that object, and no more of them than a script may have
pub record IsObject (b : List ℕ) (d : Data) : Type 0 where
  pub short : length b ≤ LIMIT
  pub text : IsUtf8 b
  pub value : read b ≡ Some d
  pub members : is_some (as_object d) ≡ true
