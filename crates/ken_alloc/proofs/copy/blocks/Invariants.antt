use Rattle.std.proofs.Common.{◌-◌, length}
use Rattle.ken_model.specs.Reading.{value_of}
use Rattle.ken_alloc.proofs.Walks.{IsCopied}
use Rattle.ken_alloc.proofs.copy.blocks.Given as goal

abbrev pub invariant-loop-found : goal.invariant-loop-found
invariant-loop-found l = IsCopied l.pages.bytes l.from l.copies.items (value_of l.pages.bytes).blocks

abbrev pub decreases-loop-found : goal.decreases-loop-found
decreases-loop-found l = length l.pages.bytes - l.from
