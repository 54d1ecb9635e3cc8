use Rattle.std.proofs.Common.{◌≡◌, take}
use Rattle.ken_cover.specs.Sides.{changes_at}
use Rattle.ken_core.proofs.copies.layer.Given as goal

abbrev pub invariant-loop-changed : goal.invariant-loop-changed
invariant-loop-changed l = l.changes.items ≡ changes_at l.turn (take l.changed-index l.pages)
