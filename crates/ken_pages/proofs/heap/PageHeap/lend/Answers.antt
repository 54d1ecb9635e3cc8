use Rattle.std.proofs.Common.{◌≡◌, ◌*◌, length, arith}
use Rattle.ken_pages.proofs.Pages.{length_view}
use Rattle.ken_pages.proofs.heap.PageHeap.lend.Goals as goal

pub lend-requires-clause-inside : goal.lend-requires-clause-inside
lend-requires-clause-inside c =
    let long : length c.args.self.now.bytes ≡ 256 * length c.self.inside.pages.items = length_view c.self.inside.begun c.self.inside.pages.items c.self.inside.shelf c.args.self.now c.self.invariant.whole c.self.view_is in
    rw c.deref.ensures.value (omega (arith, long, c.requires))
