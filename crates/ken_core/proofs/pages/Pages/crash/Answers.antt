use Rattle.std.proofs.Common.{◌∙◌, length, refl, ap, arith}
use Rattle.std.proofs.lemmas.List.{with_items_is}
use Rattle.ken_cover.specs.Overlay.{overlay}
use Rattle.ken_core.specs.Sets.{has}
use Rattle.ken_core.proofs.Fits.{torn_fit, cleared, same_image}
use Rattle.ken_core.proofs.pages.Pages.crash.Goals as goal

pub lay-requires : goal.lay-requires
lay-requires c =
    let kept = c.requires.paged.1.1 in
    torn_fit c.requires.paged.0 (length c.deref_mut.result.now) c.args.self.now.opened c.args.pages.now (ap length c.deref_mut.ensures.value ∙ kept.covers.image_size) kept.opened c.requires.torn.whole c.requires.torn.exactly

pub returns-clause-image : goal.returns-clause-image
returns-clause-image c =
    same_image _ _ refl (λ k. refl)
    (with_items_is c.args.self.now.image c.lay.new.bytes (omega (arith, c.lay.auto.bytes, c.deref_mut.ensures.len)) ∙ c.lay.ensures ∙ ap (λ bytes. overlay bytes c.args.pages.now) c.deref_mut.ensures.value)
    (λ k. ap (λ bits. has bits k) c.clear.ensures ∙ cleared (length c.args.self.now.opened) k)
