use Rattle.std.proofs.Common.{◌≡◌, ℕ, ◌<◌, Some, false}
use Rattle.std.specs.List.{flat_map, range_with_len}
use Rattle.ken_cover.specs.declared.layers.Change.{Change}
use Rattle.ken_cover.specs.Sides.{last_change, stays, base_change}
use Rattle.ken_core.specs.Sets.{has}
use Rattle.ken_core.proofs.pages.Pages.base.Given as goal

abbrev pub invariant-loop-page : goal.invariant-loop-page
invariant-loop-page l = record {
  made : l.changes.items ≡ flat_map (λ p. base_change l.settled l.self.heap p (last_change p l.self.live.items)) (range_with_len 0 l.page);
  may : (p : ℕ) (c : Change) → p < l.page → last_change p l.self.live.items ≡ Some c → stays l.settled c.turn ≡ false → has l.self.unclean p ≡ false;
}
