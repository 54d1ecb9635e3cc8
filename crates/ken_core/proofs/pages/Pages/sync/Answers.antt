use Rattle.std.proofs.Common.{◌≡◌, ◌++◌, ◌||◌, length, false, List, ℕ, refl, sym, ap, subst, ◌∙◌}
use Rattle.std.proofs.lemmas.List.{length-replicate}
use Rattle.ken_cover.specs.declared.layers.Layer.{Layer}
use Rattle.ken_cover.specs.Overlay.{among, numbers, AreWithin}
use Rattle.ken_cover.specs.Sides.{pages_of}
use Rattle.ken_core.specs.Sets.{has}
use Rattle.ken_core.proofs.Fits.{AreMarked, layers_marked, each_front, each_rest, cleared, marked_twice, same_image}
use Rattle.ken_core.proofs.pages.Pages.sync.Goals as goal
use Rattle.ken_core.proofs.pages.Pages.sync.Goals.{After-as_slices}

fits : (c : After-as_slices) → (width : ℕ) → width ≡ c.requires.0 → AreMarked width (c.as_slices.result.0.now ++ c.as_slices.result.1.now)
fits c width is = layers_marked c.requires.0 width _ is (subst (λ (ls : List Layer). AreWithin c.requires.0 (pages_of ls)) (sym c.as_slices.ensures.items) c.requires.1.1.covers.ahead_within)

pub mark_layers-requires : goal.mark_layers-requires
mark_layers-requires c =
    let width : length c.clear.new.self ≡ c.requires.0 = ap length c.clear.ensures ∙ length-replicate _ false ∙ c.requires.1.1.unclean in
    each_front _ c.as_slices.result.0.now c.as_slices.result.1.now (fits (goal.at.mark_layers-requires c).After-as_slices (length c.clear.new.self) width)

pub mark_layers-requires-2 : goal.mark_layers-requires-2
mark_layers-requires-2 c =
    let width : length c.mark_layers.new.set ≡ c.requires.0 = c.mark_layers.ensures.width ∙ ap length c.clear.ensures ∙ length-replicate _ false ∙ c.requires.1.1.unclean in
    each_rest _ c.as_slices.result.0.now c.as_slices.result.1.now (fits (goal.at.mark_layers-requires-2 c).After-as_slices (length c.mark_layers.new.set) width)

pub returns-clause-image : goal.returns-clause-image
returns-clause-image c =
    same_image _ _ refl
    (λ k. marked_twice k (length c.args.self.now.unclean) (has c.mark_layers.new.set k) (has c.mark_layers-2.new.set k) c.as_slices.result.0.now c.as_slices.result.1.now c.args.self.now.ahead.items c.as_slices.ensures.items
    (c.mark_layers.ensures.all k ∙ ap (λ bits. among (numbers (pages_of c.as_slices.result.0.now)) k || has bits k) c.clear.ensures)
    (c.mark_layers-2.ensures.all k))
    refl
    (λ k. ap (λ bits. has bits k) c.clear-2.ensures ∙ cleared (length c.args.self.now.opened) k)
