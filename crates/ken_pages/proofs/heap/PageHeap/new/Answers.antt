use Rattle.std.proofs.Common.{◌≡◌, ℕ, ◌+◌, ◌*◌, ◌++◌, false, [], ◌∷◌, length, map, replicate, sym, ap, subst, ◌∙◌, arith}
use Rattle.std.specs.Arc.{arc_value}
use Rattle.std.specs.List.{concat}
use Rattle.std.proofs.lemmas.List.{length_push, length-replicate, map_push, replicate-append-replicate}
use Rattle.ken_pages.specs.Layout.{AreWhole, now_of, was_of, is_kept, kept_pages}
use Rattle.ken_pages.proofs.Flat.{AreWhole-push, concat_zeros_more}
use Rattle.ken_pages.proofs.Counted.{none_own}
use Rattle.ken_pages.proofs.Idle.{paged_is}
use Rattle.ken_pages.proofs.heap.PageHeap.new.Goals as goal

pub loop-page-preserved : goal.loop-page-preserved
loop-page-preserved c =
    let ps = c.loop-page.all.items in
    let i = c.loop-page._page in
    let x = c.new-in-loop-page.result in
    let zeros : arc_value c.in_ok-try_clone.field-0 ≡ replicate 256 0 = c.in_ok-try_clone.ensures ∙ c.in_ok-zeros.ensures.ok ∙ c.in_ok-zeroed.ensures in
    let now : now_of x ≡ replicate 256 0 = c.new-in-loop-page.ensures.now ∙ zeros in
    let was : was_of x ≡ replicate 256 0 = c.new-in-loop-page.ensures.was ∙ zeros in
    let long : length (replicate {A = ℕ} 256 0) ≡ 256 = length-replicate {A = ℕ} 256 0 in
    rw c.in_ok-push.ensures.items (record {
      many = length_push ps x ∙ ap (λ n. n + 1) c.loop-page.invariant.many;
      whole = record {
        now = subst AreWhole (sym (map_push now_of ps x)) (AreWhole-push (map now_of ps) (now_of x) c.loop-page.invariant.whole.now (ap length now ∙ long));
        was = subst AreWhole (sym (map_push was_of ps x)) (AreWhole-push (map was_of ps) (was_of x) c.loop-page.invariant.whole.was (ap length was ∙ long));
      };
      zeros = ap concat (map_push now_of ps x) ∙ concat_zeros_more (map now_of ps) (now_of x) i c.loop-page.invariant.zeros now;
      kept = map_push is_kept ps x ∙ ap (λ b. kept_pages ps ++ b ∷ []) c.new-in-loop-page.ensures.kept ∙ ap (λ ks. ks ++ false ∷ []) c.loop-page.invariant.kept ∙ replicate-append-replicate i 1 false;
    })

pub returns : goal.returns
returns c =
    let end : c.loop-page._page ≡ c.args.pages = omega (arith, c.loop-page-test.false, c.loop-page.auto._page-end) in
    paged_is c.loop-page.all.items c.new-3.result (replicate (256 * c.args.pages) 0) 0 (replicate c.args.pages false)
    (c.loop-page.invariant.zeros ∙ ap (λ n. replicate (256 * n) 0) end)
    (ap length c.new-3.ensures)
    (none_own c.loop-page.all.items c.loop-page._page c.loop-page.invariant.kept ∙ ap (λ n. replicate n false) end)
