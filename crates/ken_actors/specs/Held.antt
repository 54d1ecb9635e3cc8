-- The network as data: each node with what it has sent, and how much of what was sent to it it has taken.
use Rattle.std.specs.Prelude.{◌≡◌, ℕ, ◌≤◌, List, [], length, sum_by, slice_index_or, ◌==◌, if◌then◌else◌}
use Rattle.std.specs.List.{All}
use Rattle.ken_model.specs.declared.messages.Message.{Message}
use Rattle.ken_model.specs.declared.facts.Facts.{Facts}
use Rattle.ken_model.specs.declared.values.Value.{Value}
use Rattle.ken_model.specs.Game.{game_of}
use Rattle.ken_model.specs.Handler.{Handler}
use Rattle.ken_model.specs.Limits.{IsWithinLimits}
use Rattle.ken_model.specs.Network.{Link, Network, Place, empty_heap, outside}
use Rattle.ken_actors.specs.Playing.{Playing, game_for}

-- a node without its heap: its stamp, how many turns it made and its outputs, what it sent to each node, how many messages of each
-- node it took, its inputs, and how many of those it took
pub record Held : Type 0 where
  pub stamp : ℕ
  pub turns : ℕ
  pub outs : List (List ℕ)
  pub sent : List (List Message)
  pub taken : List ℕ
  pub inputs : List Message
  pub inputs_taken : ℕ

-- a node past those of the run
abbrev pub no_node : Held
no_node = record { stamp = 0; turns = 0; outs = []; sent = []; taken = []; inputs = []; inputs_taken = 0 }

abbrev pub held_at : List Held → ℕ → Held
held_at hs v = slice_index_or hs v no_node

-- all that it sent to node w
abbrev pub sent_to : Held → ℕ → List Message
sent_to h w = slice_index_or h.sent w []

-- how many messages of sender u it took
abbrev pub taken_from : Held → ℕ → ℕ
taken_from h u = if u == outside then h.inputs_taken else slice_index_or h.taken u 0

-- all that u sent to v
abbrev pub sent_on : List Held → ℕ → ℕ → List Message
sent_on hs u v = if u == outside then (held_at hs v).inputs else sent_to (held_at hs u) v

abbrev pub link_of : List Held → ℕ → ℕ → Link
link_of hs u v = record { sent = sent_on hs u v; taken = taken_from (held_at hs v) u }

-- a node with its heap
abbrev pub place_of : Value → Held → Place
place_of value h = record { value = value; stamp = h.stamp; turns = h.turns; outs = h.outs }

-- the network that nodes and their heaps hold together
abbrev pub network_of : ℕ → List Value → List Held → Network
network_of size values hs = record { place = λ v. place_of (slice_index_or values v (empty_heap size)) (held_at hs v); link = link_of hs }

-- who plays a run, its facts, what its heaps stand for, and what its nodes have come to
pub record HeldRun (P : Type 0) : Type 0 where
  pub player : P
  pub facts : Facts
  pub values : List Value
  pub nodes : List Held

-- the same as a game and its network
abbrev pub playing_of : {P : Type 0} → (P → Handler) → HeldRun P → Playing
playing_of handler r = record { game = game_for (handler r.player) r.facts; network = network_of r.facts.size r.values r.nodes }

-- no stamp in it is more than t
pub record AreEarly (t : ℕ) (h : Held) : Type 0 where
  pub stamp : h.stamp ≤ t
  pub sent : (w : ℕ) → All (λ (m : Message). m.stamp ≤ t) (sent_to h w)
  pub inputs : All (λ (m : Message). m.stamp ≤ t) h.inputs

-- a node of the run: it has a list and a count for each node
pub record IsOfRun (f : Facts) (h : Held) : Type 0 where
  pub sent : length h.sent ≡ f.nodes
  pub taken : length h.taken ≡ f.nodes
  pub turns : h.turns ≤ f.turns

abbrev pub turns_made : List Held → ℕ
turns_made hs = sum_by (λ h. h.turns) hs

-- what holds of the nodes of every run, whatever turns were made
pub record AreHeld (f : Facts) (hs : List Held) : Type 0 where
  pub width : length hs ≡ f.nodes
  pub each : All (IsOfRun f) hs
  pub early : All (AreEarly (turns_made hs)) hs

-- of the handler the limits say nothing, so they are said of the game of the kind
pub record IsHeldRun {P : Type 0} (r : HeldRun P) : Type 0 where
  pub limits : IsWithinLimits (game_of r.facts)
  pub heaps : length r.values ≡ r.facts.nodes
  pub nodes : AreHeld r.facts r.nodes
