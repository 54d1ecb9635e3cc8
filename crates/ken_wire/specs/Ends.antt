-- What a contract sees of a wire's ends, and what its close tells.
use Rattle.std.specs.Prelude.{◌≡◌, ℕ, ◌+◌, ◌<◌, ◌≤◌, List, [], ◌∷◌, ◌++◌, length, slice_index_or}
use Rattle.std.specs.List.{Contains}
use Rattle.crossbeam_queue.specs.Passes.{view}
use Rattle.ken_net.specs.Puts.{MayPut}
use Rattle.ken_wire.specs.declared.view.Sent.{Sent}
use Rattle.ken_wire.specs.declared.send_end.SendEnd.{SendEnd}
use Rattle.ken_wire.specs.declared.take_end.TakeEnd.{TakeEnd}
use Rattle.ken_wire.specs.declared.wire.Closed.{Closed}
use Rattle.ken_wire.specs.Views.{nothing}
use Rattle.ken_wire.specs.Rule.{of}

-- the node that puts by it
abbrev pub from_of : SendEnd → ℕ
from_of e = e.from

-- the node that the wire goes to
abbrev pub to_of : SendEnd → ℕ
to_of e = e.to

-- what was put by it, and what was handed in
abbrev pub sent_of : SendEnd → Sent
sent_of e = (view e.pass).sent

-- how many packets it gave back
abbrev pub refused_by : SendEnd → ℕ
refused_by e = e.refused

-- the node that the wire goes to
abbrev pub taker_of : TakeEnd → ℕ
taker_of t = t.to

-- what was taken by it, in order
abbrev pub heard_of : TakeEnd → List (List ℕ)
heard_of t = (view t.pass).heard

-- how many sending ends were made, one for each node from 0 on
abbrev pub made_of : TakeEnd → ℕ
made_of t = t.made

-- what was put by the sending ends that came back, those of the first nodes in order
abbrev pub joined_of : TakeEnd → List Sent
joined_of t = (view t.pass).joined

-- the same end of the same wire
abbrev pub SameSender : SendEnd → SendEnd → Type 0
SameSender a b = (b.pass.table_id ≡ a.pass.table_id) × (b.from ≡ a.from) × (b.to ≡ a.to)

abbrev pub SameTaker : TakeEnd → TakeEnd → Type 0
SameTaker a b = (b.pass.table_id ≡ a.pass.table_id) × (b.to ≡ a.to)

-- what was heard of a wire that is closed, and what its nodes had put
abbrev pub heard_in : Closed → List (List ℕ)
heard_in c = heard_of c.take

abbrev pub sents_in : Closed → List Sent
sents_in c = joined_of c.take

-- both are ends of one wire
abbrev pub IsEndOf : TakeEnd → SendEnd → Type 0
IsEndOf take e = (e.pass.table_id ≡ take.pass.table_id) × (e.to ≡ take.to)

-- ends of one wire, one for each node from n on
abbrev pub AreEnds : ℕ → TakeEnd → List SendEnd → Type 0
AreEnds n take [] = Unit {0}
AreEnds n take (e ∷ es) = (from_of e ≡ n) × IsEndOf take e × AreEnds (n + 1) take es

-- all the ends of one wire
abbrev pub IsWire : List SendEnd → TakeEnd → Type 0
IsWire sends take = AreEnds 0 take sends × (length sends ≡ made_of take) × (joined_of take ≡ [])

-- nothing was put by them, and nothing was given back
abbrev pub AreNew : List SendEnd → Type 0
AreNew [] = Unit {0}
AreNew (e ∷ es) = (sent_of e ≡ nothing) × (refused_by e ≡ 0) × AreNew es

-- each packet that a node put is one for the wire's node, and stands in what the node has handed in
abbrev pub PutsFor : ℕ → ℕ → Sent → Type 0
PutsFor from to s = (bytes : List ℕ) → Contains s.put bytes → MayPut from to s.sealed s.consumed bytes

-- The wire carried what was put and nothing else: of each node, the packets heard and then those that were lost in the
-- queue are just its puts, in order, and there are no others
pub record Carried (to : ℕ) (sents : List Sent) (heard : List (List ℕ)) : Type 0 where
  pub lost : List (List ℕ)
  pub in_order : (k : ℕ) → k < length sents → of k (heard ++ lost) ≡ (slice_index_or sents k nothing).put
  pub honest : (k : ℕ) → k < length sents → PutsFor k to (slice_index_or sents k nothing)
  pub nobody : (k : ℕ) → length sents ≤ k → of k (heard ++ lost) ≡ []

-- each packet heard stands in what a node has handed in, with a put for the wire's node
pub record WasHandedIn (to : ℕ) (sents : List Sent) (heard : List (List ℕ)) : Type 0 where
  pub by : (bytes : List ℕ) → Contains heard bytes
      → (k : ℕ) × (k < length sents) × MayPut k to (slice_index_or sents k nothing).sealed (slice_index_or sents k nothing).consumed bytes
