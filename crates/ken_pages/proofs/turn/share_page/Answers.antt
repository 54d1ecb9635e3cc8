use Rattle.std.proofs.Common.{◌≡◌, ◌<◌, false, [], length, map, get_or, set, sym, ap, ◌∙◌, arith}
use Rattle.ken_pages.specs.Layout.{now_of, was_of, is_own, is_kept, now_bytes}
use Rattle.ken_pages.specs.Paged.{page_of}
use Rattle.ken_pages.proofs.Flat.{page_of-concat}
use Rattle.ken_pages.proofs.Listed.{kept_below}
use Rattle.ken_pages.proofs.Pages.{at_map, map_same, map_set, length_map, ArePages-same, on_ok, if_ok}
use Rattle.ken_pages.proofs.turn.share_page.Goals as goal

pub bounds-pages-page : goal.bounds-pages-page
bounds-pages-page c = kept_below c.args.pages.now c.args.page c.requires.kept

pub share-requires : goal.share-requires
share-requires c = sym (at_map is_kept c.args.pages.now c.args.page c.index-pages-page.result false (kept_below c.args.pages.now c.args.page c.requires.kept)) ∙ c.requires.kept

pub returns-clause-whole : goal.returns-clause-whole
returns-clause-whole c = ArePages-same c.args.pages.now c.args.page c.share.new.self c.index-pages-page.result (kept_below c.args.pages.now c.args.page c.requires.kept) c.share.ensures.now c.share.ensures.was c.requires.whole

pub returns-clause-now : goal.returns-clause-now
returns-clause-now c = map_same now_of c.args.pages.now c.args.page c.share.new.self c.index-pages-page.result (kept_below c.args.pages.now c.args.page c.requires.kept) c.share.ensures.now

pub returns-clause-was : goal.returns-clause-was
returns-clause-was c = map_same was_of c.args.pages.now c.args.page c.share.new.self c.index-pages-page.result (kept_below c.args.pages.now c.args.page c.requires.kept) c.share.ensures.was

pub returns-clause-kept : goal.returns-clause-kept
returns-clause-kept c =
    let below : c.args.page < length c.args.pages.now = kept_below c.args.pages.now c.args.page c.requires.kept in
    map_same is_kept c.args.pages.now c.args.page c.share.new.self c.index-pages-page.result below
    (c.share.ensures.kept ∙ sym c.requires.kept ∙ at_map is_kept c.args.pages.now c.args.page c.index-pages-page.result false below)

pub returns-clause-share : goal.returns-clause-share
returns-clause-share c =
    let ps = c.args.pages.now in
    let below : c.args.page < length ps = kept_below ps c.args.page c.requires.kept in
    let page : page_of (now_bytes ps) c.args.page ≡ now_of (get_or ps c.args.page c.index-pages-page.result) =
    page_of-concat (map now_of ps) c.args.page c.requires.whole.now (omega (arith, below, length_map now_of ps)) ∙ at_map now_of ps c.args.page c.index-pages-page.result [] below
    in
    if_ok c.share.result (λ frame is. is ∙ sym page) c.share.ensures.share

pub returns-clause-own : goal.returns-clause-own
returns-clause-own c =
    on_ok c.share.result (λ none. map_set is_own c.args.pages.now c.args.page c.share.new.self ∙ ap (λ b. set (map is_own c.args.pages.now) c.args.page b) none) c.share.ensures.own
