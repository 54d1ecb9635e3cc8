use Rattle.std.proofs.Common.{◌≡◌, false, length, replicate, sym, ap, ◌∙◌}
use Rattle.ken_pages.proofs.Parts.{lent_whole}
use Rattle.ken_pages.proofs.Pages.{own_view}
use Rattle.ken_pages.proofs.Counted.{none_own}
use Rattle.ken_pages.proofs.heap.PageHeap.commit.Goals as goal

pub returns-clause-own : goal.returns-clause-own
returns-clause-own c =
    let n = length c.self.inside.pages.items in
    let long : length c.keep.new.pages ≡ n = c.keep.ensures.count ∙ ap length c.deref_mut.ensures.value in
    let len : c.self.inside.pages.len ≡ n = sym c.deref_mut.ensures.len ∙ ap length c.deref_mut.ensures.value in
    let own : length c.args.self.now.own ≡ n = own_view c.self.inside.begun c.self.inside.pages.items c.self.inside.shelf c.args.self.now c.self.view_is in
    rw (lent_whole c.keep.new.pages c.self.inside.pages.items c.self.inside.pages.len len long)
    (none_own c.keep.new.pages (length c.deref_mut.result.now) c.keep.ensures.kept ∙ ap (λ m. replicate m false) (ap length c.deref_mut.ensures.value ∙ sym own))
