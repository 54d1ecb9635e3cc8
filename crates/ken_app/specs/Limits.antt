-- What a handler has to keep so that nodes can run it: the limits of a turn, whatever it comes to.
use Rattle.std.specs.Prelude.{◌≡◌, ℕ, ◌<◌, ◌^◌, ◌⊎◌, List, Some, IfSome}
use Rattle.std.specs.List.{AllByRecursion}
use Rattle.ken_model.specs.declared.messages.Message.{Message}
use Rattle.ken_model.specs.declared.messages.TheConstants.{OUTSIDE}
use Rattle.ken_model.specs.declared.values.Value.{Value}
use Rattle.ken_model.specs.Effects.{Effect}
use Rattle.ken_model.specs.Handler.{Handler}
use Rattle.ken_model.specs.Network.{empty_heap}
use Rattle.ken_app.specs.Turning.{IsAllowed, IsPlaced, IsShortText}

-- what a node of a run calls its handler with: a short message of a node of the run or from outside, and draws that are words
pub record IsCall (node nodes : ℕ) (m : Message) (draws : List ℕ) : Type 0 where
  pub placed : IsPlaced node nodes
  pub sender : (m.from < nodes) ⊎ (m.from ≡ OUTSIDE)
  pub short : IsShortText m.bytes
  pub words : AllByRecursion (λ (d : ℕ). d < 2 ^ 64) draws

-- a heap that a handler comes to at a node: the empty one, or what it makes of one that it comes to
pub data ComesTo (h : Handler) (node nodes size : ℕ) : Value → Type 0 where
  first : ComesTo h node nodes size (empty_heap size)
  next : {value : Value} {m : Message} {draws : List ℕ} {effect : Effect} → ComesTo h node nodes size value → IsCall node nodes m draws → h.after node nodes value m draws ≡ Some effect → ComesTo h node nodes size effect.value

-- a handler that keeps the limits of a turn at each node, whatever it comes to
abbrev pub KeepsLimits : ℕ → ℕ → Handler → Type 0
KeepsLimits nodes size h = (node : ℕ) (value : Value) (m : Message) (draws : List ℕ) → ComesTo h node nodes size value → IsCall node nodes m draws → IfSome (h.after node nodes value m draws) (IsAllowed nodes)
