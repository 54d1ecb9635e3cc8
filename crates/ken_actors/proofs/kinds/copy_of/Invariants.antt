use Rattle.std.proofs.Common.{◌≡◌, take}
use Rattle.ken_actors.proofs.kinds.copy_of.Given as goal

abbrev pub invariant-loop-block : goal.invariant-loop-block
invariant-loop-block l = l.blocks.items ≡ take l.block-index l.value.blocks
