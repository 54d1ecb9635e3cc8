use Rattle.std.proofs.Common.{◌≡◌, ◌*◌, length, IfSome, subst, arith}
use Rattle.ken_pages.proofs.Pages.{length_view, begun_view}
use Rattle.ken_pages.proofs.heap.PageHeap.pages.Goals as goal

pub returns-clause-bytes : goal.returns-clause-bytes
returns-clause-bytes c =
    let long : length c.args.self.now.bytes ≡ 256 * length c.self.inside.pages.items = length_view c.self.inside.begun c.self.inside.pages.items c.self.inside.shelf c.args.self.now c.self.invariant.whole c.self.view_is in
    omega (arith, long, c.len.ensures)

pub returns-clause-begun : goal.returns-clause-begun
returns-clause-begun c =
    let count : length c.self.inside.pages.items ≡ c.len.result = omega (arith, c.len.ensures) in
    subst (λ n. IfSome c.args.self.now.begun (λ before. length before ≡ 256 * n)) count (begun_view c.self.inside.begun c.self.inside.pages.items c.self.inside.shelf c.args.self.now c.self.invariant.whole c.self.view_is)
