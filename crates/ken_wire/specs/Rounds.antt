-- The ends of the wires to all nodes, node by node.
use Rattle.std.specs.Prelude.{◌≡◌, ℕ, ◌+◌, ◌<◌, List, [], ◌∷◌, ◌++◌, length, slice_index_or}
use Rattle.ken_wire.specs.declared.send_end.SendEnd.{SendEnd}
use Rattle.ken_wire.specs.declared.take_end.TakeEnd.{TakeEnd}
use Rattle.ken_wire.specs.Views.{nothing}
use Rattle.ken_wire.specs.Ends.{from_of, sent_of, refused_by, taker_of, heard_of, made_of, joined_of, SameTaker, IsEndOf}

-- taking ends of the wires to all nodes, by number, which have the sending ends of the nodes before this one
abbrev pub AreNext : ℕ → List TakeEnd → Type 0
AreNext node takes = (k : ℕ) (d : TakeEnd) → k < length takes → (taker_of (slice_index_or takes k d) ≡ k) × (made_of (slice_index_or takes k d) ≡ node)

-- nothing was taken by them, and no end came back
abbrev pub AreUnused : List TakeEnd → Type 0
AreUnused takes = (k : ℕ) (d : TakeEnd) → k < length takes → (heard_of (slice_index_or takes k d) ≡ []) × (joined_of (slice_index_or takes k d) ≡ [])

-- a wire has one sending end more
abbrev pub IsSeated : TakeEnd → TakeEnd → SendEnd → Type 0
IsSeated old new e = SameTaker old new × (heard_of new ≡ heard_of old) × (joined_of new ≡ joined_of old) × (made_of new ≡ made_of old + 1)
    × (from_of e ≡ made_of old) × IsEndOf new e × (sent_of e ≡ nothing) × (refused_by e ≡ 0)

-- a sending end came back
abbrev pub IsBackAt : TakeEnd → TakeEnd → SendEnd → Type 0
IsBackAt old new e = SameTaker old new × (heard_of new ≡ heard_of old) × (made_of new ≡ made_of old) × (joined_of new ≡ joined_of old ++ sent_of e ∷ [])

-- so many ends came back to each wire
abbrev pub HaveBack : ℕ → List TakeEnd → Type 0
HaveBack count takes = (k : ℕ) (d : TakeEnd) → k < length takes → length (joined_of (slice_index_or takes k d)) ≡ count

-- at each wire, with its end
abbrev pub AtEach : (TakeEnd → TakeEnd → SendEnd → Type 0) → List TakeEnd → List TakeEnd → List SendEnd → Type 0
AtEach P old new ends = (k : ℕ) (d : TakeEnd) (e : SendEnd) → k < length ends → P (slice_index_or old k d) (slice_index_or new k d) (slice_index_or ends k e)

-- each is the next end to come back to its wire
abbrev pub MayComeBack : List TakeEnd → List SendEnd → Type 0
MayComeBack takes ends = (k : ℕ) (d : TakeEnd) (e : SendEnd) → k < length ends → IsEndOf (slice_index_or takes k d) (slice_index_or ends k e) × (from_of (slice_index_or ends k e) ≡ length (joined_of (slice_index_or takes k d)))
