use Rattle.std.proofs.Common.{◌≡◌, drop}
use Rattle.ken_cover.specs.Overlay.{overlay}
use Rattle.ken_cover.specs.Sides.{pages_of}
use Rattle.ken_core.proofs.bytes.lay_layers.Given as goal

abbrev pub invariant-loop-layer : goal.invariant-loop-layer
invariant-loop-layer l = overlay l.bytes (pages_of (drop l.layer-index l.layers)) ≡ overlay l.initial.bytes (pages_of l.layers)
