use Rattle.std.proofs.Common.{◌≡◌, ◌+◌, [], false, length, map, replicate, sym, ap, subst, ◌∙◌, arith}
use Rattle.ken_pages.specs.Layout.{Lists, now_of, was_of, paged_of, was_bytes, own_pages, kept_pages}
use Rattle.ken_pages.specs.Paged.{Paged, own_count}
use Rattle.ken_pages.proofs.Parts.{lent_whole}
use Rattle.ken_pages.proofs.Pages.{own_view}
use Rattle.ken_pages.proofs.Listed.{Lists-none}
use Rattle.ken_pages.proofs.Counted.{none_own}
use Rattle.ken_pages.proofs.Idle.{not_begun, idle_same}
use Rattle.ken_pages.proofs.heap.PageHeap.abort.Goals as goal

pub invariant_of-self : goal.invariant_of-self
invariant_of-self c =
    let n = length c.self.inside.pages.items in
    let long : length c.put_back.new.pages ≡ n = c.put_back.ensures.count ∙ ap length c.deref_mut.ensures.value in
    let len : c.self.inside.pages.len ≡ n = sym c.deref_mut.ensures.len ∙ ap length c.deref_mut.ensures.value in
    let first : length c.deref.result.now ≡ length c.self.inside.first.items = ap length c.deref.ensures.value in
    let none : kept_pages c.put_back.new.pages ≡ replicate (length c.deref_mut.result.now) false = c.put_back.ensures.kept in
    rw (lent_whole c.put_back.new.pages c.self.inside.pages.items c.self.inside.pages.len len long) (record {
      some = omega (arith, long, c.self.invariant.some);
      most = omega (arith, long, c.self.invariant.most);
      whole = c.put_back.ensures.whole;
      listed = subst (λ qs. Lists qs (kept_pages c.put_back.new.pages)) (sym c.clear.ensures.items) (subst (λ ks. Lists [] ks) (sym none) (Lists-none (length c.deref_mut.result.now)));
      room = omega (arith, ap length c.clear.ensures.items, c.clear.ensures.capacity, c.put_back.ensures.most, first, c.self.invariant.room);
      idle = λ e. c.clear.ensures.items;
    })

pub returns-clause-own : goal.returns-clause-own
returns-clause-own c =
    let n = length c.self.inside.pages.items in
    let long : length c.put_back.new.pages ≡ n = c.put_back.ensures.count ∙ ap length c.deref_mut.ensures.value in
    let len : c.self.inside.pages.len ≡ n = sym c.deref_mut.ensures.len ∙ ap length c.deref_mut.ensures.value in
    let own : length c.args.self.now.own ≡ n = own_view c.self.inside.begun c.self.inside.pages.items c.self.inside.shelf c.args.self.now c.self.view_is in
    rw (lent_whole c.put_back.new.pages c.self.inside.pages.items c.self.inside.pages.len len long)
    (none_own c.put_back.new.pages (length c.deref_mut.result.now) c.put_back.ensures.kept ∙ ap (λ m. replicate m false) (ap length c.deref_mut.ensures.value ∙ sym own))

pub returns-clause-none : goal.returns-clause-none
returns-clause-none c none =
    let n = length c.self.inside.pages.items in
    let long : length c.put_back.new.pages ≡ n = c.put_back.ensures.count ∙ ap length c.deref_mut.ensures.value in
    let len : c.self.inside.pages.len ≡ n = sym c.deref_mut.ensures.len ∙ ap length c.deref_mut.ensures.value in
    let idle : c.self.inside.begun ≡ false = not_begun c.self.inside.begun (was_bytes c.self.inside.pages.items) (ap (λ (p : Paged). p.begun) c.self.view_is ∙ none) in
    let no_first : c.self.inside.first.items ≡ [] = c.self.invariant.idle idle in
    let now : map now_of c.put_back.new.pages ≡ map was_of c.self.inside.pages.items = c.put_back.ensures.now ∙ ap (map was_of) c.deref_mut.ensures.value in
    let own : own_pages c.put_back.new.pages ≡ replicate n false = none_own c.put_back.new.pages (length c.deref_mut.result.now) c.put_back.ensures.kept ∙ ap (λ ps. replicate (length ps) false) c.deref_mut.ensures.value in
    let spare : length c.put_back.new.shelf ≡ length c.self.inside.shelf + own_count (own_pages c.self.inside.pages.items) = c.put_back.ensures.spare ∙ ap (λ ps. length c.self.inside.shelf + own_count (own_pages ps)) c.deref_mut.ensures.value in
    ap (λ ps. paged_of false ps c.put_back.new.shelf) (lent_whole c.put_back.new.pages c.self.inside.pages.items c.self.inside.pages.len len long)
    ∙ idle_same c.self.inside.begun c.self.inside.pages.items c.put_back.new.pages c.self.inside.shelf c.put_back.new.shelf (subst (λ qs. Lists qs (kept_pages c.self.inside.pages.items)) no_first c.self.invariant.listed) now own spare idle
    ∙ c.self.view_is
