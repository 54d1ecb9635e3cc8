-- The wire rule: what is in a wire's queue, and what its ends know.
use Rattle.std.specs.Prelude.{◌≡◌, ℕ, ◌<◌, ◌≤◌, ◌==◌, true, List, [], ◌++◌, length, slice_index_or}
use Rattle.std.specs.List.{filter, Contains}
use mathlib.Core.Option.{Option, some, none}
use lib.ListN.{get_elem?}
use Rattle.ken_packet.specs.Reading.{sender_in}
use Rattle.ken_wire.specs.declared.view.Sent.{Sent}
use Rattle.ken_wire.specs.declared.view.View.{View}
use Rattle.ken_net.specs.Puts.{MayPut}
use Rattle.ken_wire.specs.Views.{nothing}

-- the packets of one sender, in order
abbrev pub of : ℕ → List (List ℕ) → List (List ℕ)
of p packets = filter (λ (bytes : List ℕ). sender_in bytes == p) packets

-- each packet that a node put stands in what the node has handed in
abbrev pub IsHonest : ℕ → Sent → Type 0
IsHonest from s = (bytes : List ℕ) → Contains s.put bytes → (to : ℕ) × MayPut from to s.sealed s.consumed bytes

-- the end of a node that sends: it is the node's only end, and knows all that the node put
abbrev pub FitsSender : (ℕ → Option ℕ) → (ℕ → List (List ℕ)) → ℕ → View → Type 0
FitsSender seat puts end v = v.sends ≡ true → (seat v.from ≡ some end) × (v.sent.put ≡ puts v.from) × IsHonest v.from v.sent

-- what the end that takes knows of a node whose end came back
pub record IsBack (seat : ℕ → Option ℕ) (puts : ℕ → List (List ℕ)) (node : ℕ) (s : Sent) : Type 0 where
  pub none_left : seat node ≡ none
  pub put : s.put ≡ puts node
  pub honest : IsHonest node s

-- the end that takes: it is the only one, and knows all that was heard, that no later node has an end, and what the ends
-- that came back, of the first nodes in order, had put
pub record FitsTaker (taker : ℕ) (seat : ℕ → Option ℕ) (puts : ℕ → List (List ℕ)) (heard : List (List ℕ)) (end : ℕ) (v : View) : Type 0 where
  pub only : end ≡ taker
  pub heard_all : v.heard ≡ heard
  pub later : (p : ℕ) → v.made ≤ p → (seat p ≡ none) × (puts p ≡ [])
  pub back : (k : ℕ) → k < length v.joined → IsBack seat puts k (slice_index_or v.joined k nothing)
  pub few : length v.joined ≤ v.made

-- what was heard and then what is queued, kept to one sender, is what that sender put, in order
pub record WireRule (queued : List (List ℕ)) (views : List View) : Type 0 where
  pub taker : ℕ
  pub seat : ℕ → Option ℕ
  pub puts : ℕ → List (List ℕ)
  pub heard : List (List ℕ)
  pub in_order : (p : ℕ) → of p (heard ++ queued) ≡ puts p
  pub senders : (end : ℕ) (v : View) → get_elem? views end ≡ some v → FitsSender seat puts end v
  pub takers : (end : ℕ) (v : View) → get_elem? views end ≡ some v → v.takes ≡ true → FitsTaker taker seat puts heard end v

-- what the end that takes can tell: of each node whose end came back, the packets heard and then those that were lost in
-- the queue are its puts, in order, and each stands in what it handed in; of no later node is there any
pub record Tells (made : ℕ) (joined : List Sent) (heard lost : List (List ℕ)) : Type 0 where
  pub in_order : (k : ℕ) → k < length joined → of k (heard ++ lost) ≡ (slice_index_or joined k nothing).put
  pub honest : (k : ℕ) → k < length joined → IsHonest k (slice_index_or joined k nothing)
  pub nobody : (p : ℕ) → made ≤ p → of p (heard ++ lost) ≡ []
