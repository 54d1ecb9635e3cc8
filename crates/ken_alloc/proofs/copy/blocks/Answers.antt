use Rattle.std.proofs.Common.{sym, ◌∙◌}
use Rattle.ken_model.specs.Reading.{value_of}
use Rattle.ken_alloc.proofs.Walks.{IsFirst, is_first, copy_more}
use Rattle.ken_alloc.proofs.copy.blocks.Goals as goal

pub loop-found-preserved : goal.loop-found-preserved
loop-found-preserved c =
    let xs = c.args.pages.now.bytes in
    let s = c.loop-found.invariant in
    let f = c.in-Some.found in
    let first : IsFirst xs c.loop-found.from f s.rest = is_first xs c.loop-found.from f s.rest s.walk (sym c.in-Some.is ∙ c.block_from.ensures s.rest s.walk) in
    rw (c.in_ok-push.ensures.items, c.end-from.ensures) (copy_more xs c.loop-found.from c.loop-found.copies.items (value_of c.args.pages.now.bytes).blocks s f first c.in_ok-block.field-0 c.in_ok-block.ensures)
