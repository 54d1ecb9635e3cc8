use Rattle.std.proofs.Common.{◌≡◌, ◌-◌, ◌≤◌, ◌++◌, ◌⊎◌, length, replicate}
use Rattle.ken_frame.proofs.shelf.Shelf.reserve.Given as goal

abbrev pub invariant-loop-self : goal.invariant-loop-self
invariant-loop-self l =
    (l.self ≡ replicate (length l.self - length l.initial.self) (replicate 256 0) ++ l.initial.self)
    × (length l.initial.self ≤ length l.self)
    × ((length l.self ≤ length l.initial.self) ⊎ (length l.self ≤ l.count))

abbrev pub decreases-loop-self : goal.decreases-loop-self
decreases-loop-self l = l.count - length l.self
