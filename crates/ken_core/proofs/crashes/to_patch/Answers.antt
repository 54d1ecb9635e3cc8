use Rattle.std.proofs.Common.{◌≡◌, ◌==◌, false, ◌∙◌, ◌<◌, ◌+◌, ◌++◌, [], ◌∷◌, List, length, map, drop, sym, ap, subst, arith, append-nil}
use Rattle.std.proofs.lemmas.Bool.{eqb-true, eqb-false}
use Rattle.ken_cover.specs.declared.layers.Layer.{Layer}
use Rattle.ken_cover.specs.Sides.{recounted, with_pages}
use Rattle.ken_core.proofs.Fits.{patched_more, nothing_put, one_put}
use Rattle.ken_core.proofs.crashes.to_patch.Goals as goal
use Rattle.ken_core.proofs.crashes.to_patch.Goals.{then-not-is_empty+in_ok-recounted+in_ok-push_back, else-not-is_empty}

some_length : (l : Layer) → (length l.changes == 0) ≡ false → 0 < length l.changes
some_length l is = let none = eqb-false (length l.changes) 0 is in omega (arith, none)

pub loop-layer-preserved : goal.loop-layer-preserved
loop-layer-preserved c =
    let l : Layer = c.layer-item.result in
    let whole : List Layer = with_pages (map recounted c.args.layers.now) in
    elim c.if-not-is_empty.branch [
      | then-not-is_empty+in_ok-recounted+in_ok-push_back w ↦ subst (λ (ls : List Layer). ls ++ with_pages (map recounted (drop (c.loop-layer.layer-index + 1) c.args.layers.now)) ≡ whole)
          (sym (ap (λ q. q.items) w.ahead-is ∙ w.in_ok-push_back.ensures.items))
          (patched_more c.loop-layer.ahead.items (w.in_ok-recounted.field-0 ∷ []) whole c.args.layers.now c.loop-layer.layer-index l c.loop-layer-test.true c.layer-item.is
          (one_put l w.in_ok-recounted.field-0 (some_length l (sym c.is_empty.ensures ∙ w.if-not-is_empty.true)) w.in_ok-recounted.ensures) c.loop-layer.invariant)
      | else-not-is_empty w ↦ subst (λ (ls : List Layer). ls ++ with_pages (map recounted (drop (c.loop-layer.layer-index + 1) c.args.layers.now)) ≡ whole)
          (append-nil c.loop-layer.ahead.items ∙ sym (ap (λ q. q.items) w.ahead-is))
          (patched_more c.loop-layer.ahead.items [] whole c.args.layers.now c.loop-layer.layer-index l c.loop-layer-test.true c.layer-item.is
          (nothing_put l (eqb-true (length l.changes) 0 (sym c.is_empty.ensures ∙ w.if-not-is_empty.false))) c.loop-layer.invariant)
    ]
