-- The abstract network: heaps, stamps and outputs of nodes, and all messages ever sent on links. No crash, no loss, no packet, no thread.
use Rattle.std.specs.Prelude.{ℕ, ◌+◌, ◌^◌, max, List, [], ◌∷◌, ◌++◌, length, ◌&&◌, ◌==◌, nat_lt, if◌then◌else◌, Bool, Option, Some, None, option_map, option_and_then, slice_get}
use Rattle.std.specs.List.{list_all}
use Rattle.ken_model.specs.declared.values.Value.{Value}
use Rattle.ken_model.specs.declared.messages.Message.{Message}
use Rattle.ken_model.specs.declared.messages.Send.{Send}
use Rattle.ken_model.specs.declared.messages.Step.{Step}
use Rattle.ken_model.specs.declared.messages.Out.{Out}
use Rattle.ken_model.specs.declared.facts.Input.{Input}
use Rattle.ken_model.specs.declared.messages.TheConstants.{OUTSIDE}
use Rattle.ken_model.specs.Game.{Game}
use Rattle.ken_model.specs.Effects.{Effect}

-- a node: its heap, its stamp, how many turns it has made, and its outputs, the k-th of which has the number k
pub record Place : Type 0 where
  pub value : Value
  pub stamp : ℕ
  pub turns : ℕ
  pub outs : List (List ℕ)

-- a link: all its messages, the k-th of which has the number k, and how many were delivered
pub record Link : Type 0 where
  pub sent : List Message
  pub taken : ℕ

pub record Network : Type 0 where
  pub place : ℕ → Place
  pub link : ℕ → ℕ → Link

-- a turn of a node: the message that it takes, what it draws, its stamp, and what it does
pub record Turn : Type 0 where
  pub message : Message
  pub draws : List ℕ
  pub stamp : ℕ
  pub effect : Effect

-- the sender of inputs, which is no node
abbrev pub outside : ℕ
outside = OUTSIDE

-- an empty heap
abbrev pub empty_heap : ℕ → Value
empty_heap size = record { size = size; root = 0; blocks = [] }

abbrev pub first_place : Game → Place
first_place g = record { value = empty_heap g.size; stamp = 0; turns = 0; outs = [] }

-- an input as a message with that number
abbrev pub input_at : ℕ → Input → Message
input_at number i = record { from = outside; to = i.node; number = number; stamp = 0; bytes = i.text }

-- the inputs for node v, as messages that are numbered on from n
abbrev pub inputs_from : ℕ → ℕ → List Input → List Message
inputs_from v n [] = []
inputs_from v n (i ∷ is) = if i.node == v then input_at (n + 1) i ∷ inputs_from v (n + 1) is else inputs_from v n is

abbrev pub inputs_for : Game → ℕ → List Message
inputs_for g v = inputs_from v 0 g.inputs

-- the start: empty heaps, and all inputs on the links of the outside
abbrev pub start : Game → Network
start g = record { place = λ v. first_place g; link = λ u v. record { sent = if u == outside then inputs_for g v else []; taken = 0 } }

-- the message that comes next on a link
abbrev pub front : Link → Option Message
front l = slice_get l.sent l.taken

-- what a turn of node u with that stamp sends to node v, numbered on from n
abbrev pub numbered : ℕ → ℕ → ℕ → ℕ → List Send → List Message
numbered u v n stamp [] = []
numbered u v n stamp (s ∷ ss) = if s.to == v then record { from = u; to = v; number = n + 1; stamp = stamp; bytes = s.bytes } ∷ numbered u v (n + 1) stamp ss else numbered u v n stamp ss

-- outputs, numbered on from n
unfoldable pub outputs_from : ℕ → List (List ℕ) → List Out
outputs_from n [] = []
outputs_from n (x ∷ xs) = record { number = n + 1; text = x } ∷ outputs_from (n + 1) xs

-- draws are words of 64 bits
abbrev pub are_words : List ℕ → Bool
are_words draws = list_all (λ d. nat_lt d (2 ^ 64)) draws

-- what the handler makes of a message at node v: nothing where a draw is no word
abbrev pub handled : Game → ℕ → Value → Message → List ℕ → Option Effect
handled g v value message draws = if are_words draws then g.handler.after v g.nodes value message draws else None

-- the turn of node v that takes a message: its stamp is one more than the larger of the node's and the message's
unfoldable pub turn_at : Game → ℕ → Place → List ℕ → Message → Option Turn
turn_at g v p draws message = option_map (λ e. record { message = message; draws = draws; stamp = max p.stamp message.stamp + 1; effect = e }) (handled g v p.value message draws)

-- the turn of a step: none where the node has made all its turns, where no message of the link is left, or where the handler
-- isn't defined at the draws or one of them is no word
abbrev pub turn_of : Game → Network → Step → Option Turn
turn_of g w s = if nat_lt (w.place s.node).turns g.turns then option_and_then (turn_at g s.node (w.place s.node) s.draws) (front (w.link s.from s.node)) else None

-- the node after its turn
abbrev pub place_after : Place → Turn → Place
place_after p t = record { value = t.effect.value; stamp = t.stamp; turns = p.turns + 1; outs = p.outs ++ t.effect.outs }

-- the link (u, v) after a step and its turn: the node's sends are at the end of its links, and the message is delivered
abbrev pub link_after : Step → Turn → ℕ → ℕ → Link → Link
link_after s t u v l = record {
  sent = if u == s.node then l.sent ++ numbered u v (length l.sent) t.stamp t.effect.sends else l.sent;
  taken = if (u == s.from) && (v == s.node) then l.taken + 1 else l.taken;
}

-- the network after a step and its turn: nothing else changes
abbrev pub applied : Network → Step → Turn → Network
applied w s t = record { place = λ v. if v == s.node then place_after (w.place v) t else w.place v; link = λ u v. link_after s t u v (w.link u v) }

abbrev pub applied_or_same : Network → Step → Option Turn → Network
applied_or_same w s None = w
applied_or_same w s (Some t) = applied w s t

-- the network after a step: as it was where the step isn't defined
abbrev pub stepped : Game → Network → Step → Network
stepped g w s = applied_or_same w s (turn_of g w s)
