-- A turn that is taken back, whatever it did to the heap.
use Rattle.std.proofs.Common.{◌≡◌, ℕ, List, Option, Some, None, IsSome, refl, sym, ap, subst, ◌∙◌}
use Rattle.ken_disk.specs.Story.{Story}
use Rattle.ken_alloc.specs.Objects.{Heap, heap_in}
use Rattle.ken_store.specs.declared.numbers.Numbers.{Numbers}
use Rattle.ken_store.specs.declared.owner.Owner.{Owner}
use Rattle.ken_store.specs.Apart.{WorkMayBeUndone, WorkStandsUndone}
use Rattle.ken_store.specs.Standing.{IsStore}
use Rattle.ken_store.specs.Turning.{HasPages, KeepsLog, undone, undone_from}
use Rattle.ken_store.proofs.SealMeanwhile.{stands_undone, undone_pages}
use Rattle.ken_store.proofs.Sealing.{turning_kept}

-- the heap that is left doesn't depend on what the turn did
undone-from_same : (g h : Heap) (begun : Option (List ℕ)) → IsSome begun → undone_from g begun ≡ undone_from h begun
undone-from_same g h None some = absurd cc
undone-from_same g h (Some before) some = refl

undone_same : (g h : Heap) → IsSome h.begun → g.begun ≡ h.begun → undone g ≡ undone h
undone_same g h some begun = ap (undone_from g) begun ∙ undone-from_same g h h.begun some

-- and has its pages
pages-undone_from : (n : ℕ) (h : Heap) (begun : Option (List ℕ)) → h.begun ≡ begun → HasPages n h → HasPages n (undone_from h begun)
pages-undone_from n h None is has = has
pages-undone_from n h (Some before) is has = record { bytes = has.before before is; before = λ b none. absurd cc }

module _ {D : Type 0} (told : D → Option Story) (size : D → ℕ) where
  pub work_may_be_undone : WorkMayBeUndone told size
  work_may_be_undone handler new heap turning some begun objects same =
      let back : heap_in new.objects ≡ undone (heap_in handler.objects) = objects ∙ undone_same (heap_in heap) (heap_in handler.objects) some begun in
      let log : KeepsLog handler new = record { owner = same.owner; log = same.log; which = same.which; other = same.other; numbers = same.numbers; base_turns = same.base_turns; records = same.records } in (
        turning_kept told size handler new turning log (subst (HasPages handler.owner.pages) (sym back) (pages-undone_from handler.owner.pages (heap_in handler.objects) handler.objects.begun refl turning.heap)),
        undone_pages handler new log back,
        back,
      )

  pub work_stands_undone : WorkStandsUndone told size
  work_stands_undone store new heap i stands some begun objects same patches =
      let all = work_may_be_undone store.turns new.turns heap stands.takes.turns some begun objects same in
      let takes : IsStore told size new = record {
        turns = all.0;
        patches = rw patches stands.takes.patches;
        count = ap (λ x. x.image.pages) patches ∙ stands.takes.count ∙ ap (λ (o : Owner). o.pages) (sym same.owner);
        known = ap (λ x. x.known) patches ∙ stands.takes.known ∙ ap (λ (n : Numbers). n.turns) (sym same.numbers);
      } in
      stands_undone told size store new i stands takes all.1 same.owner same.numbers (ap (λ x. x.image) patches) (ap (λ x. x.ahead.items) patches)
