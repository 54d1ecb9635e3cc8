use Rattle.std.proofs.Common.{◌≡◌, ℕ, ◌||◌, take, map, length}
use Rattle.ken_cover.specs.declared.layers.Change.{Change}
use Rattle.ken_cover.specs.Overlay.{among}
use Rattle.ken_core.specs.Sets.{has}
use Rattle.ken_core.proofs.marks.mark_changes.Given as goal

abbrev pub invariant-loop-change : goal.invariant-loop-change
invariant-loop-change l = record {
  width : length l.set ≡ length l.initial.set;
  all : (k : ℕ) → has l.set k ≡ (among (map (λ (c : Change). c.page.page) (take l.change-index l.changes)) k || has l.initial.set k);
}
