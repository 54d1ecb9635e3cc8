use Rattle.std.proofs.Common.{◌≡◌, ◌++◌, map, drop}
use Rattle.ken_cover.specs.Sides.{recounted, with_pages}
use Rattle.ken_core.proofs.crashes.to_patch.Given as goal

abbrev pub invariant-loop-layer : goal.invariant-loop-layer
invariant-loop-layer l = l.ahead.items ++ with_pages (map recounted (drop l.layer-index l.layers)) ≡ with_pages (map recounted l.layers)
