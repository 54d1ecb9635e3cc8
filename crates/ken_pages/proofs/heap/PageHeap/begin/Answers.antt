use Rattle.std.proofs.Common.{◌≡◌, ℕ, List, [], false, Some, length, replicate, ap, subst, ◌∙◌}
use Rattle.std.specs.List.{concat}
use Rattle.ken_pages.specs.Paged.{Paged}
use Rattle.ken_pages.specs.Layout.{Lists, is_kept, now_bytes, was_bytes, own_pages, kept_pages}
use Rattle.ken_pages.proofs.Pages.{length_map}
use Rattle.ken_pages.proofs.Listed.{none_listed}
use Rattle.ken_pages.proofs.Counted.{none_was}
use Rattle.ken_pages.proofs.Idle.{not_begun}
use Rattle.ken_pages.proofs.heap.PageHeap.begin.Goals as goal

pub returns : goal.returns
returns c =
    let ps = c.self.inside.pages.items in
    let idle : c.self.inside.begun ≡ false = not_begun c.self.inside.begun (was_bytes ps) (ap (λ (p : Paged). p.begun) c.self.view_is ∙ c.requires) in
    let listed : Lists [] (kept_pages ps) = subst (λ qs. Lists qs (kept_pages ps)) (c.self.invariant.idle idle) c.self.invariant.listed in
    let kept : kept_pages ps ≡ replicate (length ps) false = none_listed (kept_pages ps) listed ∙ ap (λ n. replicate n false) (length_map is_kept ps) in
    let was : was_bytes ps ≡ now_bytes ps = ap concat (none_was ps (length ps) kept) in
    ap (λ (bs : List ℕ). let p : Paged = record { bytes = now_bytes ps; begun = Some bs; spare = length c.self.inside.shelf; own = own_pages ps } in p) was
    ∙ ap (λ (v : Paged). let p : Paged = record v { begun = Some v.bytes } in p) c.self.view_is
