use Rattle.std.proofs.Common.{◌≡◌, ℕ, ◌*◌, ◌++◌, List, false, length, map, get_or, sym, ap, ◌∙◌, arith, drop_of_length-le}
use Rattle.std.specs.List.{concat}
use Rattle.std.proofs.lemmas.List.{append-nil}
use Rattle.ken_frame.specs.Written.{written}
use Rattle.ken_pages.specs.Layout.{now_of, is_own, is_kept}
use Rattle.ken_pages.proofs.Pages.{at_map, map_same, length_now, now_bytes-written, ArePages-set, on_ok, on_err, either}
use Rattle.ken_pages.proofs.Listed.{not_listed}
use Rattle.ken_pages.proofs.Counted.{not_own}
use Rattle.ken_pages.proofs.frames.load.Goals as goal

pub load-requires : goal.load-requires
load-requires c = sym (at_map is_kept c.args.pages.now c.args.page c.index-pages-page.result false c.requires.inside) ∙ not_listed (map is_kept c.args.pages.now) c.args.page c.requires.none

-- bytes over as many are these alone
over_all : (xs ys : List ℕ) → length xs ≡ 256 → length ys ≡ 256 → written xs 0 ys ≡ ys
over_all xs ys old new = ap (λ zs. ys ++ zs) (drop_of_length-le xs (omega (arith, old, new))) ∙ append-nil ys

pub returns-clause-bytes : goal.returns-clause-bytes
returns-clause-bytes c =
    let ps = c.args.pages.now in
    let old : length (now_of (get_or ps c.args.page c.index-pages-page.result)) ≡ 256 = length_now ps c.args.page c.index-pages-page.result c.requires.whole c.requires.inside in
    on_ok c.load.result (λ is. now_bytes-written ps c.args.page 0 (256 * c.args.page) c.args.frame.now c.load.new.self c.index-pages-page.result c.requires.whole c.requires.inside (omega (arith, c.load.ensures.whole)) (omega arith)
    (is ∙ sym (over_all (now_of (get_or ps c.args.page c.index-pages-page.result)) c.args.frame.now old c.load.ensures.whole))) c.load.ensures.now

pub returns-clause-same : goal.returns-clause-same
returns-clause-same c = on_err c.load.result (λ is. ap concat (map_same now_of c.args.pages.now c.args.page c.load.new.self c.index-pages-page.result c.requires.inside is)) c.load.ensures.same

pub returns-clause-kept : goal.returns-clause-kept
returns-clause-kept c =
    let none : is_kept (get_or c.args.pages.now c.args.page c.index-pages-page.result) ≡ false = sym (at_map is_kept c.args.pages.now c.args.page c.index-pages-page.result false c.requires.inside) ∙ not_listed (map is_kept c.args.pages.now) c.args.page c.requires.none in
    map_same is_kept c.args.pages.now c.args.page c.load.new.self c.index-pages-page.result c.requires.inside (c.load.ensures.kept ∙ sym none)

pub returns-clause-own : goal.returns-clause-own
returns-clause-own c =
    let page = get_or c.args.pages.now c.args.page c.index-pages-page.result in
    let none : is_kept page ≡ false = sym (at_map is_kept c.args.pages.now c.args.page c.index-pages-page.result false c.requires.inside) ∙ not_listed (map is_kept c.args.pages.now) c.args.page c.requires.none in
    map_same is_own c.args.pages.now c.args.page c.load.new.self c.index-pages-page.result c.requires.inside (not_own c.load.new.self c.load.ensures.kept ∙ sym (not_own page none))

pub returns-clause-whole : goal.returns-clause-whole
returns-clause-whole c =
    let ps = c.args.pages.now in
    let old : length (now_of (get_or ps c.args.page c.index-pages-page.result)) ≡ 256 = length_now ps c.args.page c.index-pages-page.result c.requires.whole c.requires.inside in
    let now : length (now_of c.load.new.self) ≡ 256 = either c.load.result (λ is. ap length is ∙ c.load.ensures.whole) (λ is. ap length is ∙ old) c.load.ensures.now c.load.ensures.same in
    ArePages-set ps c.args.page c.load.new.self c.requires.whole now (ap length c.load.ensures.was ∙ now)
