-- What a net over wires puts and gives between two of its states.
use Rattle.std.specs.Prelude.{◌≡◌, ◌≢◌, ℕ, ◌<◌, ◌==◌, if◌then◌else◌, ◌⊎◌, List, [], ◌∷◌, ◌++◌, length, slice_index, slice_index_or}
use Rattle.ken_model.specs.declared.messages.Message.{Message}
use Rattle.ken_net.specs.Puts.{Put}
use Rattle.ken_net.specs.Counts.{risen, put_to}
use Rattle.ken_wire.specs.declared.view.Sent.{Sent}
use Rattle.ken_wire.specs.declared.send_end.SendEnd.{SendEnd}
use Rattle.ken_wire.specs.declared.take_end.TakeEnd.{TakeEnd}
use Rattle.ken_wire.specs.Views.{after_put}
use Rattle.ken_wire.specs.Ends.{from_of, to_of, sent_of, refused_by, heard_of, made_of, joined_of, SameSender, SameTaker}

-- sending ends of one node, one for each node, by number
abbrev pub AreFrom : ℕ → List SendEnd → Type 0
AreFrom node ends = (k : ℕ) (d : SendEnd) → k < length ends → (from_of (slice_index_or ends k d) ≡ node) × (to_of (slice_index_or ends k d) ≡ k)

-- what an end put, with what was handed in, and how many packets it gave back, went by these puts in order: one for another
-- node is not the end's; one for its node was put, or was given back and counted
abbrev pub Grew : ℕ → List Put → Sent → ℕ → Sent → ℕ → Type 0
Grew k [] a n b m = (b ≡ a) × (m ≡ n)
Grew k (p ∷ ps) a n b m =
    ((p.to ≢ k) × Grew k ps a n b m)
    ⊎ ((p.to ≡ k) × (Grew k ps (after_put p.sealed p.consumed p.bytes a) n b m ⊎ Grew k ps a (risen n) b m))

-- an end is still the same, and went by these puts
abbrev pub EndGrew : ℕ → List Put → SendEnd → SendEnd → Type 0
EndGrew k ps a b = SameSender a b × Grew k ps (sent_of a) (refused_by a) (sent_of b) (refused_by b)

-- each end went by these puts
pub record EndsGrew (old new : List SendEnd) (ps : List Put) : Type 0 where
  pub count : length new ≡ length old
  pub each : (k : ℕ) (d : SendEnd) → k < length old → EndGrew k ps (slice_index_or old k d) (slice_index_or new k d)

-- the counts of the puts for each of so many nodes went by these puts
abbrev pub AreCounted : ℕ → List ℕ → List ℕ → List Put → Type 0
AreCounted nodes old new ps = (k : ℕ) → k < nodes → slice_index new k ≡ put_to k ps (slice_index old k)

-- the end is still the same, and heard these packets
pub record Heard (old new : TakeEnd) (packets : List (List ℕ)) : Type 0 where
  pub end : SameTaker old new × (made_of new ≡ made_of old) × (joined_of new ≡ joined_of old)
  pub more : heard_of new ≡ heard_of old ++ packets

-- what was handed in with the puts for a node
abbrev pub handed_to : {X : Type 0} → (Put → List X) → ℕ → List Put → List X
handed_to of k [] = []
handed_to of k (p ∷ ps) = if p.to == k then of p ++ handed_to of k ps else handed_to of k ps

abbrev pub sealed_to : ℕ → List Put → List Message
sealed_to k ps = handed_to (λ (p : Put). p.sealed) k ps

abbrev pub consumed_to : ℕ → List Put → List (ℕ × ℕ)
consumed_to k ps = handed_to (λ (p : Put). p.consumed) k ps
