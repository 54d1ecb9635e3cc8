use Rattle.std.proofs.Common.{◌≡◌, length, sym, ap, ◌∙◌, subst, arith}
use Rattle.std.proofs.lemmas.List.{nil_from_length}
use Rattle.std.proofs.lemmas.List.Sorted.{length_permutation}
use Rattle.ken_pages.specs.Layout.{Lists, kept_pages}
use Rattle.ken_pages.proofs.Dirty.{Lists-permutation}
use Rattle.ken_pages.proofs.Parts.{lent_whole}
use Rattle.ken_pages.proofs.heap.PageHeap.freeze.Goals as goal

pub freeze-requires-clause-listed : goal.freeze-requires-clause-listed
freeze-requires-clause-listed c =
    rw (c.deref.ensures.value, c.deref_mut.ensures.value) (Lists-permutation c.self.inside.first.items c.sort_unstable.new.self.items (kept_pages c.self.inside.pages.items) c.sort_unstable.ensures.permutation c.self.invariant.listed)

pub invariant_of-self : goal.invariant_of-self
invariant_of-self c =
    let ps = c.self.inside.pages.items in
    let inv = c.self.invariant in
    let same : c.deref_mut.result.now ≡ ps = c.deref_mut.ensures.value in
    let long : length c.freeze.new.pages ≡ length ps = c.freeze.ensures.count ∙ ap length same in
    let len : c.self.inside.pages.len ≡ length ps = sym c.deref_mut.ensures.len ∙ ap length same in
    let kept : kept_pages c.freeze.new.pages ≡ kept_pages ps = c.freeze.ensures.kept ∙ ap kept_pages same in
    let sorted = c.sort_unstable.new.self.items in
    let count : length sorted ≡ length c.self.inside.first.items = length_permutation c.self.inside.first.items sorted c.sort_unstable.ensures.permutation in
    rw (lent_whole c.freeze.new.pages ps c.self.inside.pages.len len long) (record {
      some = omega (arith, inv.some, long);
      most = omega (arith, inv.most, long);
      whole = c.freeze.ensures.whole;
      listed = subst (λ ks. Lists sorted ks) (sym kept) (Lists-permutation c.self.inside.first.items sorted (kept_pages ps) c.sort_unstable.ensures.permutation inv.listed);
      room = omega (arith, inv.room, count, c.sort_unstable.ensures.capacity);
      idle = λ none. nil_from_length sorted (count ∙ ap length (inv.idle none));
    })
