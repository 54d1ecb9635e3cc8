-- A service on trial.
use Rattle.std.specs.Prelude.{ℕ, List, length, zip, Bool, ◌==◌, ◌&&◌, bytes_eq, Option}
use Rattle.std.specs.List.{list_all}
use denote.Bor.{Bor}
use Rattle.ken_model.specs.declared.messages.Send.{Send}
use Rattle.ken_model.specs.declared.messages.Message.{Message}
use Rattle.ken_model.specs.declared.values.Value.{Value}
use Rattle.ken_model.specs.Effects.{Effect}
use Rattle.ken_model.specs.Handler.{Handler}
use Rattle.ken_app.specs.Limited.{limited}

-- the service, the node whose turns it makes, how many nodes there are, and what the node's heap stands for
pub record Trying (S : Type 0) : Type 0 where
  pub service : S
  pub node : ℕ
  pub nodes : ℕ
  pub value : Value

-- a message to the node, as the first of its link, and an input's stamp
abbrev pub message_to : ℕ → ℕ → List ℕ → Message
message_to node from text = record { from = from; to = node; number = 1; stamp = 0; bytes = text }

-- what the turn comes to in which the node takes such a message, within the limits
abbrev pub tried : {S : Type 0} → Handler → Trying S → ℕ → List ℕ → List ℕ → Option Effect
tried h t from text draws = (limited h).after t.node t.nodes t.value (message_to t.node from text) draws

abbrev pub is_sent : Send × (ℕ × Bor (List ℕ)) → Bool
is_sent p = (p.0.to == p.1.0) && bytes_eq p.0.bytes p.1.1.now

abbrev pub is_output : List ℕ × Bor (List ℕ) → Bool
is_output p = bytes_eq p.0 p.1.now

-- messages are these: as many, each to that node and with that text
abbrev pub are_sent : List Send → List (ℕ × Bor (List ℕ)) → Bool
are_sent sends wanted = (length sends == length wanted) && list_all is_sent (zip sends wanted)

-- outputs are these texts
abbrev pub are_output : List (List ℕ) → List (Bor (List ℕ)) → Bool
are_output outs wanted = (length outs == length wanted) && list_all is_output (zip outs wanted)
