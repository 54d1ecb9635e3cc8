use Rattle.std.proofs.Common.{◌≡◌, drop}
use Rattle.ken_model.specs.Heap.{AreBlocks, first_gap_from, first_gap}
use Rattle.ken_model.proofs.values.Value.first_gap.Given as goal

-- the gaps up to here are too small
abbrev pub invariant-loop-block : goal.invariant-loop-block
invariant-loop-block l = record {
  blocks : AreBlocks l.from l.self.size (drop l.block-index l.self.blocks);
  gap : first_gap_from l.from l.self.size (drop l.block-index l.self.blocks) l.len ≡ first_gap l.self l.len;
}
