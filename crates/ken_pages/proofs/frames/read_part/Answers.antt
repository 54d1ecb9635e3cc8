use Rattle.std.proofs.Common.{◌≡◌, [], get_or, ◌/◌, ◌%◌, ◌<◌, length, map, take, drop, sym, ap, ◌∙◌, arith}
use Rattle.ken_pages.specs.Layout.{now_of}
use Rattle.ken_pages.proofs.Flat.{part_of_frame}
use Rattle.ken_pages.proofs.Pages.{at_map, length_map}
use Rattle.ken_pages.proofs.frames.read_part.Goals as goal

pub returns : goal.returns
returns c =
    let below : c.args.at / 256 < length c.args.pages.now = omega arith in
    let read : c.frame.result.now ≡ now_of (get_or c.args.pages.now (c.args.at / 256) c.index-pages-at.result) = c.frame.ensures ∙ ap now_of c.index-pages-at.is in
    c.read.ensures ∙ ap (λ f. take (length c.args.buf.now) (drop (c.args.at % 256) f)) (read ∙ sym (at_map now_of c.args.pages.now (c.args.at / 256) c.index-pages-at.result [] below))
    ∙ sym (part_of_frame (map now_of c.args.pages.now) (c.args.at / 256) (c.args.at % 256) c.args.at (length c.args.buf.now) [] c.requires.whole.now (omega (arith, length_map now_of c.args.pages.now)) c.requires.one (omega arith))
