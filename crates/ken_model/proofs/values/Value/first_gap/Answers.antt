use Rattle.std.proofs.Common.{◌≡◌, ℕ, ◌+◌, ◌<◌, ◌≤◌, List, length, drop, slice_index_or, ap, ◌∙◌, arith}
use Rattle.ken_model.specs.declared.values.Block.{Block}
use Rattle.ken_model.specs.Heap.{AreBlocks, end_of}
use Rattle.ken_model.proofs.Edits.{block_next}
use Rattle.ken_model.proofs.Heaps.{blocks-from}
use Rattle.ken_model.proofs.values.Value.first_gap.Goals as goal

pub overflow_add-from : goal.overflow_add-from
overflow_add-from c =
    let size = blocks-from c.loop-block.from c.args.self.now.size _ c.loop-block.invariant.blocks in
    omega arith

pub overflow_add-from-in-loop-block : goal.overflow_add-from-in-loop-block
overflow_add-from-in-loop-block c =
    let size = blocks-from c.loop-block.from c.args.self.now.size _ c.loop-block.invariant.blocks in
    omega arith

-- the block at the index lies within the size
within : (from size k : ℕ) (items bs : List Block) (b : Block) → AreBlocks from size (drop k bs) → items ≡ bs → k < length items → b ≡ slice_index_or items k b → end_of b ≤ size
within from size k items bs b h same more is =
    let rest = rw (block_next k bs b (omega (arith, ap length same)) (is ∙ ap (λ l. slice_index_or l k b) same)) at h in
    blocks-from (end_of b) size (drop (k + 1) bs) rest.3

pub rounded-requires : goal.rounded-requires
rounded-requires c =
    let last = within c.loop-block.from c.args.self.now.size c.loop-block.block-index _ c.args.self.now.blocks c.block-item.result c.loop-block.invariant.blocks c.as_slice-block-items.ensures c.loop-block-test.true c.block-item.is in
    omega arith

pub overflow_add-from-in-loop-block-2 : goal.overflow_add-from-in-loop-block-2
overflow_add-from-in-loop-block-2 c =
    let last = within c.loop-block.from c.args.self.now.size c.loop-block.block-index _ c.args.self.now.blocks c.block-item.result c.loop-block.invariant.blocks c.as_slice-block-items.ensures c.loop-block-test.true c.block-item.is in
    omega (arith, c.len.ensures, c.rounded.ensures)
