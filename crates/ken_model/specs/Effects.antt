-- What a turn comes to.
use Rattle.std.specs.Prelude.{ℕ, List, [], ◌∷◌, codes}
use Rattle.ken_model.specs.declared.values.Value.{Value}
use Rattle.ken_model.specs.declared.messages.Send.{Send}

-- what a turn changes, sends and outputs
pub record Effect : Type 0 where
  pub value : Value
  pub sends : List Send
  pub outs : List (List ℕ)

-- one output, and nothing sent
abbrev pub answered : Value → List ℕ → Effect
answered value text = record { value = value; sends = []; outs = text ∷ [] }

-- a payload that the kind doesn't know is answered `bad`, and changes nothing
abbrev pub refused : Value → Effect
refused value = answered value (codes "bad")
