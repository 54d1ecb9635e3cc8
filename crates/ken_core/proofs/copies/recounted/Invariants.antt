use Rattle.std.proofs.Common.{◌≡◌, take, map}
use Rattle.ken_cover.specs.declared.layers.Change.{Change}
use Rattle.ken_core.proofs.copies.recounted.Given as goal

abbrev pub invariant-loop-change : goal.invariant-loop-change
invariant-loop-change l = l.changes.items ≡ map (λ (c : Change). record c { turn = l.layer.turn }) (take l.change-index l.change-items)
