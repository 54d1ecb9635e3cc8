use Rattle.std.proofs.Common.{◌-◌, List}
use Rattle.ken_model.specs.declared.values.Block.{Block}
use Rattle.ken_model.proofs.Walked.{AreChecked}
use Rattle.ken_alloc.proofs.adopt.check_cells.Given as goal

abbrev pub invariant-loop-at : goal.invariant-loop-at
invariant-loop-at l = (before : List Block) × AreChecked l.pages.bytes l.at l.after_gap before

abbrev pub decreases-loop-at : goal.decreases-loop-at
decreases-loop-at l = l.size - l.at
