use Rattle.std.proofs.Common.{◌≡◌, drop}
use Rattle.ken_cover.specs.Overlay.{overlay}
use Rattle.ken_core.proofs.bytes.lay.Given as goal

abbrev pub invariant-loop-page : goal.invariant-loop-page
invariant-loop-page l = overlay l.bytes (drop l.page-index l.pages) ≡ overlay l.initial.bytes l.pages
