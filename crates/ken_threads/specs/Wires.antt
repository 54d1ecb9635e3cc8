-- The wires of one kind between so many nodes: the taking end of each, and the sending ends of each node.
use Rattle.std.specs.Prelude.{◌≡◌, ℕ, ◌<◌, List, [], length, map, slice_index_or, Vec}
use Rattle.std.specs.Global.{Global}
use Rattle.std.specs.List.{Contains}
use Rattle.ken_net.specs.Puts.{MayPut}
use Rattle.ken_wire.specs.declared.send_end.SendEnd.{SendEnd}
use Rattle.ken_wire.specs.declared.take_end.TakeEnd.{TakeEnd}
use Rattle.ken_wire.specs.declared.view.Sent.{Sent}
use Rattle.ken_wire.specs.Ends.{heard_of, IsEndOf, joined_of, made_of, refused_by, SameTaker, sent_of, taker_of}
use Rattle.ken_wire.specs.Nets.{AreFrom}
use Rattle.ken_wire.specs.Views.{nothing}

-- the ends of each node
abbrev pub ends_of : List (Vec SendEnd Global) → List (List SendEnd)
ends_of sends = map (λ (v : Vec SendEnd Global). v.items) sends

abbrev pub of_node : ℕ → List (List SendEnd) → List SendEnd
of_node v sends = slice_index_or sends v []

-- the ends of node v, one of each of the wires that these taking ends are of
pub record IsRow (n v : ℕ) (takes : List TakeEnd) (ends : List SendEnd) : Type 0 where
  pub count : length ends ≡ n
  pub own : AreFrom v ends
  pub wires : (k : ℕ) (d : TakeEnd) (e : SendEnd) → k < n → IsEndOf (slice_index_or takes k d) (slice_index_or ends k e)

-- all ends of all wires
pub record AreWired (n : ℕ) (takes : List TakeEnd) (sends : List (List SendEnd)) : Type 0 where
  pub takers_count : length takes ≡ n
  pub senders_count : length sends ≡ n
  pub takers : (k : ℕ) (d : TakeEnd) → k < n → (taker_of (slice_index_or takes k d) ≡ k) × (made_of (slice_index_or takes k d) ≡ n) × (joined_of (slice_index_or takes k d) ≡ [])
  pub rows : (v : ℕ) → v < n → IsRow n v takes (of_node v sends)

-- nothing was put by the ends of a node
abbrev pub IsUnused : List SendEnd → Type 0
IsUnused ends = (k : ℕ) (e : SendEnd) → k < length ends → (sent_of (slice_index_or ends k e) ≡ nothing) × (refused_by (slice_index_or ends k e) ≡ 0)

-- and nothing was put or taken by any
pub record AreNew (n : ℕ) (takes : List TakeEnd) (sends : List (List SendEnd)) : Type 0 where
  pub wired : AreWired n takes sends
  pub heard : (k : ℕ) (d : TakeEnd) → k < n → heard_of (slice_index_or takes k d) ≡ []
  pub put : (v : ℕ) → v < n → IsUnused (of_node v sends)

-- what node v sent on the wire to node k
abbrev pub sent_at : ℕ → SendEnd → List SendEnd → Sent
sent_at k e ends = sent_of (slice_index_or ends k e)

-- all sending ends came back
pub record AreBack (n : ℕ) (sends : List (List SendEnd)) (old new : List TakeEnd) : Type 0 where
  pub count : length new ≡ n
  pub same : (k : ℕ) (d : TakeEnd) → k < n → SameTaker (slice_index_or old k d) (slice_index_or new k d)
  pub made : (k : ℕ) (d : TakeEnd) → k < n → made_of (slice_index_or new k d) ≡ n
  pub heard : (k : ℕ) (d : TakeEnd) → k < n → heard_of (slice_index_or new k d) ≡ heard_of (slice_index_or old k d)
  pub joined : (k : ℕ) (d : TakeEnd) (e : SendEnd) → k < n → joined_of (slice_index_or new k d) ≡ map (sent_at k e) sends

-- each packet that was taken from a wire is one that a node may have put for the wire's node, with what it handed in with its puts
pub record Carry (n : ℕ) (takes : List TakeEnd) (sends : List (List SendEnd)) : Type 0 where
  pub each : (to : ℕ) (d : TakeEnd) (e : SendEnd) (bytes : List ℕ) → to < n → Contains (heard_of (slice_index_or takes to d)) bytes
      → (v : ℕ) × (v < n) × MayPut v to (sent_at to e (of_node v sends)).sealed (sent_at to e (of_node v sends)).consumed bytes
