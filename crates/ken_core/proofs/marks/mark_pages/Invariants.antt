use Rattle.std.proofs.Common.{◌≡◌, ℕ, ◌||◌, take, length}
use Rattle.ken_cover.specs.Overlay.{among, numbers}
use Rattle.ken_core.specs.Sets.{has}
use Rattle.ken_core.proofs.marks.mark_pages.Given as goal

abbrev pub invariant-loop-page : goal.invariant-loop-page
invariant-loop-page l = record {
  width : length l.set ≡ length l.initial.set;
  all : (k : ℕ) → has l.set k ≡ (among (numbers (take l.page-index l.pages)) k || has l.initial.set k);
}
