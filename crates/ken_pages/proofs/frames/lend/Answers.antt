use Rattle.std.proofs.Common.{◌≡◌, [], get_or, length, map, ◌<◌, sym, ap, ◌∙◌, arith}
use Rattle.ken_pages.specs.Layout.{now_of}
use Rattle.ken_pages.proofs.Flat.{page_of-concat}
use Rattle.ken_pages.proofs.Pages.{at_map, if_ok, length_map}
use Rattle.ken_pages.proofs.frames.lend.Goals as goal

pub returns : goal.returns
returns c =
    let ps = c.args.pages.now in
    let below : c.args.page < length (map now_of ps) = omega (arith, c.requires.inside, length_map now_of ps) in
    if_ok c.lend.result (λ _ is. is ∙ ap now_of c.index-pages-page.is ∙ sym (at_map now_of ps c.args.page c.index-pages-page.result [] c.requires.inside)
    ∙ sym (page_of-concat (map now_of ps) c.args.page c.requires.whole.now below)) c.lend.ensures
