use Rattle.std.proofs.Common.{◌≡◌, drop, map}
use Rattle.ken_cover.specs.declared.layers.Change.{Change}
use Rattle.ken_cover.specs.Overlay.{overlay}
use Rattle.ken_core.proofs.bytes.lay_changes.Given as goal

abbrev pub invariant-loop-change : goal.invariant-loop-change
invariant-loop-change l = overlay l.bytes (map (λ (c : Change). c.page) (drop l.change-index l.changes)) ≡ overlay l.initial.bytes (map (λ (c : Change). c.page) l.changes)
