use Rattle.std.proofs.Common.{◌≡◌, ◌∙◌, ◌||◌, false, List, length, map, refl, sym, ap, subst}
use Rattle.std.proofs.lemmas.List.{length-replicate}
use Rattle.ken_cover.specs.declared.layers.Layer.{Layer}
use Rattle.ken_cover.specs.Overlay.{among, numbers}
use Rattle.ken_cover.specs.Sides.{pages_of, recounted, with_pages}
use Rattle.ken_core.specs.Sets.{has}
use Rattle.ken_core.specs.Pages.{HaveFit}
use Rattle.ken_core.proofs.Fits.{AreMarked, layers_fit, layers_marked, cleared, or_false, same_image}
use Rattle.ken_core.proofs.pages.Pages.recover.Goals as goal

pub lay_layers-requires : goal.lay_layers-requires
lay_layers-requires c =
    let kept = c.requires.1.1.covers in
    subst (λ (ls : List Layer). HaveFit (length c.deref_mut.result.now) ls) (sym c.as_slice-2.ensures.value)
    (layers_fit c.requires.0 (length c.deref_mut.result.now) c.args.self.now.live.items (ap length (c.deref_mut.ensures.value ∙ c.in_ok-heap.ensures.items ∙ c.as_slice.ensures.value) ∙ kept.image_size) kept.live_within)

pub mark_layers-requires : goal.mark_layers-requires
mark_layers-requires c =
    let kept = c.requires.1.1 in
    let wide : length c.in_ok-unclean.unclean ≡ c.requires.0 = ap length c.in_ok-unclean.ensures ∙ length-replicate c.width.result false ∙ c.width.ensures ∙ kept.unclean in
    subst (λ (ls : List Layer). AreMarked (length c.in_ok-unclean.unclean) ls) (sym c.as_slice-3.ensures.value)
    (layers_marked c.requires.0 (length c.in_ok-unclean.unclean) c.args.self.now.live.items wide kept.covers.live_within)

pub returns-clause-image : goal.returns-clause-image
returns-clause-image c =
    same_image _ _ (c.in_ok-ahead.ensures ∙ ap (λ ls. with_pages (map recounted ls)) c.as_slice-4.ensures.value)
    (λ k. c.mark_layers.ensures.all k
    ∙ ap (λ b. among (numbers (pages_of c.as_slice-3.result.now)) k || b) (ap (λ bits. has bits k) c.in_ok-unclean.ensures ∙ cleared c.width.result k)
    ∙ or_false (among (numbers (pages_of c.as_slice-3.result.now)) k)
    ∙ ap (λ ls. among (numbers (pages_of ls)) k) c.as_slice-3.ensures.value)
    refl (λ k. refl)
