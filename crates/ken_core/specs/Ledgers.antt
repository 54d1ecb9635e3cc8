-- What a node has sealed, as the code keeps it: the turns, and what is found by number.
use Rattle.std.specs.Prelude.{◌≡◌, ℕ, ◌+◌, ◌<◌, ◌≤◌, ◌++◌, ◌==◌, if◌then◌else◌, List, [], ◌∷◌, filter, length, map, slice_get, slice_index, slice_index_or, Some, vec_len, vec_capacity}
use Rattle.std.specs.List.{All}
use Rattle.ken_model.specs.declared.messages.Out.{Out}
use Rattle.ken_record.specs.declared.effects.Effects.{Effects}
use Rattle.ken_model.specs.declared.messages.Message.{Message}
use Rattle.ken_model.specs.Game.{Game}
use Rattle.ken_model.specs.Network.{outside, inputs_for}
use Rattle.ken_core.specs.declared.ledger.Ledger.{Ledger}
use Rattle.ken_core.specs.Turns.{consumed_from, mails_to, outs_of}

-- all that it sent to node w
abbrev pub sent_to : Ledger → ℕ → List Message
sent_to l w = slice_index_or (map (λ list. list.items) l.sent.items) w []

-- the counts and lists of node v are those of its turns
pub record IsLedger (g : Game) (v : ℕ) (l : Ledger) : Type 0 where
  pub turns : length l.turns.items ≤ g.turns
  pub consumed_width : length l.consumed.items ≡ g.nodes
  pub consumed : (u : ℕ) → u < g.nodes → slice_index l.consumed.items u ≡ consumed_from u l.turns.items
  pub inputs : l.inputs.items ≡ inputs_for g v
  pub inputs_consumed : l.inputs_consumed ≡ consumed_from outside l.turns.items
  pub sent_width : length l.sent.items ≡ g.nodes
  pub sent : (w : ℕ) → w < g.nodes → sent_to l w ≡ mails_to v w l.turns.items
  pub outs : l.outs.items ≡ outs_of l.turns.items
  -- the messages to each node are numbered from 1
  pub numbered : (w k : ℕ) (m : Message) → slice_get (mails_to v w l.turns.items) k ≡ Some m → m.number ≡ k + 1

-- a ledger of some node
abbrev pub IsSomeLedger : Ledger → Type 0
IsSomeLedger l = (g : Game) × ((v : ℕ) × IsLedger g v l)

-- how many messages of a sender it counts
abbrev pub counted_from : Ledger → ℕ → ℕ
counted_from l u = if u == outside then l.inputs_consumed else slice_index l.consumed.items u

-- a turn was sealed that sent and output this
pub record IsSealed (e : Effects) (mails : List Message) (made : List Out) (l l2 : Ledger) : Type 0 where
  pub turns : l2.turns.items ≡ l.turns.items ++ e ∷ []
  pub counted : (u : ℕ) → counted_from l2 u ≡ (if u == e.from then counted_from l u + 1 else counted_from l u)
  pub consumed_width : length l2.consumed.items ≡ length l.consumed.items
  pub inputs : l2.inputs.items ≡ l.inputs.items
  pub sent : (w : ℕ) → sent_to l2 w ≡ sent_to l w ++ filter (λ (m : Message). m.to == w) mails
  pub sent_width : length l2.sent.items ≡ length l.sent.items
  pub outs : l2.outs.items ≡ l.outs.items ++ made

-- nothing changed but how much room there is
pub record IsSameLedger (l l2 : Ledger) : Type 0 where
  pub turns : l2.turns.items ≡ l.turns.items
  pub consumed : l2.consumed ≡ l.consumed
  pub inputs : l2.inputs ≡ l.inputs
  pub inputs_consumed : l2.inputs_consumed ≡ l.inputs_consumed
  pub sent : map (λ list. list.items) l2.sent.items ≡ map (λ list. list.items) l.sent.items
  pub outs : l2.outs.items ≡ l.outs.items

-- there is room for a turn with so many mails and outputs
pub record HasRoom (mails made : ℕ) (l : Ledger) : Type 0 where
  pub turns : vec_len l.turns < vec_capacity l.turns
  pub sent : All (λ list. vec_len list + mails ≤ vec_capacity list) l.sent.items
  pub outs : vec_len l.outs + made ≤ vec_capacity l.outs
