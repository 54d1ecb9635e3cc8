-- A turn that is being made, and the turn that an application has made.
use Rattle.std.specs.Prelude.{◌≡◌, ℕ, ◌<◌, ◌≤◌, List, [], ◌∷◌, ◌++◌, length, Some, IsSome, IfSome}
use Rattle.std.specs.List.{AllByRecursion}
use Rattle.ken_alloc.specs.Objects.{Heap, heap_in}
use Rattle.ken_model.specs.declared.messages.Message.{Message}
use Rattle.ken_model.specs.declared.messages.Send.{Send}
use Rattle.ken_model.specs.declared.facts.TheConstants.{MAX_NODES, MAX_TEXT}
use Rattle.ken_model.specs.Reading.{value_of}
use Rattle.ken_model.specs.Effects.{Effect}
use Rattle.ken_model.specs.Handler.{Handler}
use Rattle.ken_app.specs.declared.turn.Turn.{Turn}
use Rattle.ken_app.specs.declared.turn.TheConstants.{MAX_SENDS, MAX_OUTPUTS}

-- what a turn has come to: at which node of how many it is made, for which message, the heap, and what was drawn, sent and
-- output so far
pub record Turning : Type 0 where
  pub node : ℕ
  pub nodes : ℕ
  pub message : Message
  pub heap : Heap
  pub draws : List ℕ
  pub sends : List Send
  pub outs : List (List ℕ)

abbrev pub turning : {O : Type 0} → Turn O → Turning
turning t = record { node = t.node; nodes = t.nodes; message = t.message.now; heap = heap_in t.objects.now; draws = t.made.now.draws.items; sends = t.made.now.sends.items; outs = t.made.now.outs.items }

-- the oracle that a turn draws from
abbrev pub oracle_of : {O : Type 0} → Turn O → O
oracle_of t = t.oracle.now

-- it goes on with the heap, the oracle and the lists that it was lent
pub record IsOneTurn {O : Type 0} (before now : Turn O) : Type 0 where
  pub objects : now.objects.ghost_name ≡ before.objects.ghost_name
  pub oracle : now.oracle.ghost_name ≡ before.oracle.ghost_name
  pub made : now.made.ghost_name ≡ before.made.ghost_name

-- a turn that has drawn, sent and output nothing
abbrev pub first_turning : ℕ → ℕ → Message → Heap → Turning
first_turning node nodes message heap = record { node = node; nodes = nodes; message = message; heap = heap; draws = []; sends = []; outs = [] }

-- a node of a run
pub record IsPlaced (node nodes : ℕ) : Type 0 where
  pub some_node : 0 < nodes
  pub few_nodes : nodes ≤ MAX_NODES
  pub known : node < nodes

-- a turn at its beginning: one of the heap is begun, and nothing was changed since, drawn, sent or output
pub record IsFresh (t : Turning) : Type 0 where
  pub placed : IsPlaced t.node t.nodes
  pub begun : IsSome t.heap.begun
  pub unchanged : IfSome t.heap.begun (λ before. value_of before ≡ t.heap.value)
  pub draws : t.draws ≡ []
  pub sends : t.sends ≡ []
  pub outs : t.outs ≡ []

-- a text that a message may carry and a turn may output
abbrev pub IsShortText : List ℕ → Type 0
IsShortText bytes = length bytes ≤ MAX_TEXT

-- the turn with a text more that it sends
abbrev pub with_send : ℕ → List ℕ → Turning → Turning
with_send to text t = record t { sends = t.sends ++ record { to = to; bytes = text } ∷ [] }

-- the turn with a text more that it outputs
abbrev pub with_output : List ℕ → Turning → Turning
with_output text t = record t { outs = t.outs ++ text ∷ [] }

-- an effect within the limits of a turn: few sends and outputs, each short, the sends to nodes of the run
pub record IsAllowed (nodes : ℕ) (e : Effect) : Type 0 where
  pub few_sends : length e.sends ≤ MAX_SENDS
  pub few_outs : length e.outs ≤ MAX_OUTPUTS
  pub sends : AllByRecursion (λ (s : Send). (s.to < nodes) × IsShortText s.bytes) e.sends
  pub outs : AllByRecursion IsShortText e.outs

-- a turn within the limits: its message is short, and so is what the handler function makes of it and of these draws, where
-- that is anything
pub record Allows (handler : Handler) (before : Turning) (draws : List ℕ) : Type 0 where
  pub message : IsShortText before.message.bytes
  pub effect : IfSome (handler.after before.node before.nodes before.heap.value before.message draws) (IsAllowed before.nodes)

-- the turn is what the handler function makes of the message and of what was drawn
pub record IsHandled (handler : Handler) (before now : Turning) : Type 0 where
  pub node : now.node ≡ before.node
  pub nodes : now.nodes ≡ before.nodes
  pub message : now.message ≡ before.message
  pub effect : handler.after before.node before.nodes before.heap.value before.message now.draws ≡ Some (record { value = now.heap.value; sends = now.sends; outs = now.outs })
