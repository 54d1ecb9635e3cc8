-- What a handler has to keep so that each of its outputs is one line of a report.
use Rattle.std.specs.Prelude.{◌≡◌, ℕ, List, Some, IfSome}
use Rattle.std.specs.List.{AllByRecursion}
use Rattle.ken_model.specs.declared.messages.Message.{Message}
use Rattle.ken_model.specs.declared.messages.Send.{Send}
use Rattle.ken_model.specs.declared.values.Value.{Value}
use Rattle.ken_model.specs.Effects.{Effect}
use Rattle.ken_model.specs.Handler.{Handler}
use Rattle.ken_model.specs.Network.{empty_heap}
use Rattle.ken_model.specs.Report.{IsOneLine}
use Rattle.ken_app.specs.Limits.{IsCall}

-- a heap that a handler comes to at a node by messages without line feeds: the empty one, or what it makes of one that it comes to
pub data ComesByLines (h : Handler) (node nodes size : ℕ) : Value → Type 0 where
  first : ComesByLines h node nodes size (empty_heap size)
  next : {value : Value} {m : Message} {draws : List ℕ} {effect : Effect} → ComesByLines h node nodes size value → IsCall node nodes m draws → IsOneLine m.bytes → h.after node nodes value m draws ≡ Some effect → ComesByLines h node nodes size effect.value

-- an effect that sends and outputs no line feed
pub record IsOfLines (e : Effect) : Type 0 where
  pub sends : AllByRecursion (λ (s : Send). IsOneLine s.bytes) e.sends
  pub outs : AllByRecursion IsOneLine e.outs

-- a handler that sends and outputs none at any node, where it takes none
abbrev pub KeepsLines : ℕ → ℕ → Handler → Type 0
KeepsLines nodes size h = (node : ℕ) (value : Value) (m : Message) (draws : List ℕ) → ComesByLines h node nodes size value → IsCall node nodes m draws → IsOneLine m.bytes → IfSome (h.after node nodes value m draws) IsOfLines
