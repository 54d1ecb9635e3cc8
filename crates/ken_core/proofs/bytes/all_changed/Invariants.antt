use Rattle.std.proofs.Common.{take, All}
use Rattle.ken_core.specs.Enabled.{IsChanged}
use Rattle.ken_core.proofs.bytes.all_changed.Given as goal

abbrev pub invariant-loop-page : goal.invariant-loop-page
invariant-loop-page l = All (IsChanged l.heap) (take l.page-index l.pages)
