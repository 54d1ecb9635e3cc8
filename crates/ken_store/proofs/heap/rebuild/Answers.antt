use Rattle.std.proofs.Common.{◌≡◌, ◌*◌, ◌∙◌, ◌++◌, List, ℕ, take, ap, sym, subst}
use Rattle.std.specs.Prelude.{IfOk}
use Rattle.std.specs.List.{flat_map}
use Rattle.ken_cover.specs.Overlay.{overlay}
use Rattle.ken_cover.proofs.Newest.{overlay-append}
use Rattle.ken_store.specs.Answers.{Stands}
use Rattle.ken_store.specs.Kept.{record_pages}
use Rattle.ken_store.proofs.heap.rebuild.Goals as goal

pub returns-clause-stands : goal.returns-clause-stands
returns-clause-stands g c = λ h told.
    let rest = flat_map record_pages c.args.records.now in
    let image = take (256 * c.args.image.now.pages) h.now.seen in
    let laid : c.lay_records.new.heap.bytes ≡ overlay image (c.args.base.now ++ rest) =
    c.in_ok-lay_records.ensures.bytes
    ∙ ap (λ (b : List ℕ). overlay b rest) (c.in_ok-lay_over.ensures.bytes ∙ ap (λ (b : List ℕ). overlay b c.args.base.now) (c.in_ok-load_image.ensures.bytes h told))
    ∙ sym (overlay-append image c.args.base.now rest) in
    subst (Stands c.adopted.result) laid c.adopted.ensures.stands

pub returns-clause-bytes : goal.returns-clause-bytes
returns-clause-bytes g c = λ h told.
    let rest = flat_map record_pages c.args.records.now in
    let image = take (256 * c.args.image.now.pages) h.now.seen in
    let laid : c.lay_records.new.heap.bytes ≡ overlay image (c.args.base.now ++ rest) =
    c.in_ok-lay_records.ensures.bytes
    ∙ ap (λ (b : List ℕ). overlay b rest) (c.in_ok-lay_over.ensures.bytes ∙ ap (λ (b : List ℕ). overlay b c.args.base.now) (c.in_ok-load_image.ensures.bytes h told))
    ∙ sym (overlay-append image c.args.base.now rest) in
    subst (λ (b : List ℕ). IfOk c.adopted.result (λ o. o.bytes ≡ b)) laid c.adopted.ensures.same
