use Rattle.std.proofs.Common.{◌≡◌, List, length, sym, ap, subst, ◌∙◌, arith}
use Rattle.std.specs.Vec.{with_items}
use Rattle.std.proofs.lemmas.List.{with_items_is}
use Rattle.ken_record.specs.declared.page.Page.{Page}
use Rattle.ken_cover.specs.Overlay.{overlay, AreWithin}
use Rattle.ken_cover.proofs.Newest.{length-overlay}
use Rattle.ken_core.specs.Heaps.{IsValueOf, pages_before}
use Rattle.ken_core.proofs.Fits.{fits}
use Rattle.ken_core.proofs.Keeps.{changed_within}
use Rattle.ken_core.proofs.Heaps.{before_within, laid_back}
use Rattle.ken_core.proofs.heap.Heap.value_under.Goals as goal
use Rattle.ken_core.proofs.heap.Heap.value_under.Goals.{After-as_slice-3, After-drop-before}

within : (c : After-as_slice-3) → AreWithin c.requires.size.0 c.args.pages.now
within c = changed_within c.requires.size.0 c.args.self.now c.args.pages.now c.requires.size.1 c.requires.changed

-- the bytes with the pages over them
laid : (c : After-as_slice-3) → c.deref_mut-2.result.now ≡ overlay c.args.self.now c.args.pages.now
laid c =
    c.deref_mut-2.ensures.value ∙ with_items_is c.self.inside.bytes c.lay.new.bytes (omega (arith, c.lay.auto.bytes, c.deref_mut.ensures.len))
    ∙ c.lay.ensures ∙ ap (λ bytes. overlay bytes c.args.pages.now) (c.deref_mut.ensures.value ∙ c.self.view_is)

before : (c : After-as_slice-3) → c.as_slice-3.result.now ≡ pages_before c.args.self.now c.args.pages.now
before c = c.as_slice-3.ensures.value ∙ c.in_ok-before.ensures ∙ ap (λ bytes. pages_before bytes c.args.pages.now) (c.as_slice.ensures.value ∙ c.self.view_is)

pub lay-requires-2 : goal.lay-requires-2
lay-requires-2 c =
    fits c.requires.size.0 (length c.deref_mut-2.result.now) c.as_slice-3.result.now (ap length (laid c) ∙ length-overlay c.requires.size.0 c.args.self.now c.args.pages.now c.requires.size.1 (within c))
    (subst (λ (es : List Page). AreWithin c.requires.size.0 es) (sym (before c)) (before_within c.requires.size.0 c.args.self.now c.args.pages.now c.requires.size.1 (within c)))

-- and without them again
same : (c : After-drop-before) → (with_items (with_items c.self.inside.bytes c.lay.new.bytes) c.lay-2.new.bytes).items ≡ c.args.self.now
same c =
    let at = (goal.at.returns-clause-same c).After-as_slice-3 in
    with_items_is (with_items c.self.inside.bytes c.lay.new.bytes) c.lay-2.new.bytes (omega (arith, c.lay-2.auto.bytes, c.deref_mut-2.ensures.len))
    ∙ c.lay-2.ensures
    ∙ ap (λ bytes. overlay bytes c.as_slice-3.result.now) (laid at)
    ∙ ap (overlay (overlay c.args.self.now c.args.pages.now)) (before at)
    ∙ laid_back c.requires.size.0 c.args.self.now c.args.pages.now c.requires.size.1 (within at)

pub invariant_of-self : goal.invariant_of-self
invariant_of-self c = subst (λ bytes. IsValueOf bytes c.self.inside.value) (sym (same c ∙ sym c.self.view_is)) c.self.invariant

pub returns-clause-same : goal.returns-clause-same
returns-clause-same c = same c
