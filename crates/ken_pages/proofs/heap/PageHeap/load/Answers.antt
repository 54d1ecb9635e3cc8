use Rattle.std.proofs.Common.{◌≡◌, ◌*◌, [], false, length, sym, ap, subst, ◌∙◌, arith}
use Rattle.ken_pages.specs.Paged.{Paged}
use Rattle.ken_pages.specs.Layout.{Lists, was_bytes, kept_pages}
use Rattle.ken_pages.proofs.Pages.{length_view, length_pages}
use Rattle.ken_pages.proofs.Parts.{lent_whole}
use Rattle.ken_pages.proofs.Idle.{not_begun}
use Rattle.ken_pages.proofs.heap.PageHeap.load.Goals as goal

pub load-requires-clause-inside : goal.load-requires-clause-inside
load-requires-clause-inside c =
    let long : length c.args.self.now.bytes ≡ 256 * length c.self.inside.pages.items = length_view c.self.inside.begun c.self.inside.pages.items c.self.inside.shelf c.args.self.now c.self.invariant.whole c.self.view_is in
    rw c.deref_mut.ensures.value (omega (arith, long, c.requires.within))

pub load-requires-clause-none : goal.load-requires-clause-none
load-requires-clause-none c =
    let idle : c.self.inside.begun ≡ false = not_begun c.self.inside.begun (was_bytes c.self.inside.pages.items) (ap (λ (p : Paged). p.begun) c.self.view_is ∙ c.requires.idle) in
    let none : Lists [] (kept_pages c.self.inside.pages.items) = subst (λ qs. Lists qs (kept_pages c.self.inside.pages.items)) (c.self.invariant.idle idle) c.self.invariant.listed in
    subst (λ ps. Lists [] (kept_pages ps)) (sym c.deref_mut.ensures.value) none

pub returns-clause-length : goal.returns-clause-length
returns-clause-length c =
    let old : length c.args.self.now.bytes ≡ 256 * length c.self.inside.pages.items = length_view c.self.inside.begun c.self.inside.pages.items c.self.inside.shelf c.args.self.now c.self.invariant.whole c.self.view_is in
    let count : length c.load.new.pages ≡ length c.self.inside.pages.items = c.load.ensures.count ∙ ap length c.deref_mut.ensures.value in
    let len : c.self.inside.pages.len ≡ length c.self.inside.pages.items = sym c.deref_mut.ensures.len ∙ ap length c.deref_mut.ensures.value in
    rw (lent_whole c.load.new.pages c.self.inside.pages.items c.self.inside.pages.len len count)
    (length_pages c.load.new.pages c.load.ensures.whole ∙ ap (λ n. 256 * n) count ∙ sym old)
