use Rattle.std.proofs.Common.{◌≡◌, map, take}
use Rattle.ken_cover.specs.Sides.{recounted}
use Rattle.ken_core.proofs.crashes.recounted_layers.Given as goal

abbrev pub invariant-loop-layer : goal.invariant-loop-layer
invariant-loop-layer l = l.recounted.items ≡ map recounted (take l.layer-index l.layers)
