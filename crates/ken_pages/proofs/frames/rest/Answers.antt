use Rattle.std.proofs.Common.{◌≡◌, [], get_or, ◌-◌, ◌/◌, ◌%◌, ◌<◌, length, map, take, drop, sym, ap, ◌∙◌, arith}
use Rattle.ken_pages.specs.Layout.{now_of}
use Rattle.ken_pages.proofs.Flat.{part_of_frame}
use Rattle.ken_pages.proofs.Pages.{at_map, length_map}
use Rattle.ken_pages.proofs.frames.rest.Goals as goal

pub returns-clause-bytes : goal.returns-clause-bytes
returns-clause-bytes c =
    let ps = c.args.pages.now in
    let page = c.args.at / 256 in
    let off = c.args.at % 256 in
    let below : page < length ps = omega arith in
    let same : c.as_slice.result.now ≡ now_of (get_or ps page c.index-pages-at.result) = c.as_slice.ensures.same ∙ c.frame.ensures ∙ ap now_of c.index-pages-at.is in
    ap (λ n. take (n - off) (drop off c.as_slice.result.now)) c.as_slice.ensures.whole ∙ ap (λ f. take (256 - off) (drop off f)) (same ∙ sym (at_map now_of ps page c.index-pages-at.result [] below))
    ∙ sym (part_of_frame (map now_of ps) page off c.args.at (256 - off) [] c.requires.whole.now (omega (arith, length_map now_of ps)) (omega arith) (omega arith))
