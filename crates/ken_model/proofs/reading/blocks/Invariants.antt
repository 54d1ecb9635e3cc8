use Rattle.std.proofs.Common.{◌-◌, length}
use Rattle.ken_model.proofs.Walked.{AreChecked}
use Rattle.ken_model.proofs.reading.blocks.Given as goal

abbrev pub invariant-loop-at : goal.invariant-loop-at
invariant-loop-at l = AreChecked l.bytes l.at l.after_gap l.blocks.items

abbrev pub decreases-loop-at : goal.decreases-loop-at
decreases-loop-at l = length l.bytes - l.at
