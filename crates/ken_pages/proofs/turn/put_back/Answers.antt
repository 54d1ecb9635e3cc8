use Rattle.std.proofs.Common.{◌≡◌, is_some, ◌+◌, ◌-◌, ◌<◌, suc, false, length, get_or, set, replicate, sym, ap, ◌∙◌, arith}
use Rattle.ken_pages.specs.Paged.{own_count, missing}
use Rattle.ken_pages.specs.Layout.{was_of, is_own, own_pages, kept_pages}
use Rattle.ken_pages.proofs.Pages.{map_same, ArePages-set, length_was}
use Rattle.ken_pages.proofs.Listed.{listed_below, listed_next, listed_all}
use Rattle.ken_pages.proofs.Counted.{own_count-gone, own_count-none, none_own, none_was}
use Rattle.ken_pages.proofs.turn.put_back.Goals as goal
use Rattle.ken_pages.proofs.turn.put_back.Goals.{in-Some, in_default}

pub bounds-pages-page : goal.bounds-pages-page
bounds-pages-page c = listed_below c.loop-page.pages c.args.first.now c.loop-page.page-index c.loop-page.invariant.listed c.loop-page-test.true

pub loop-page-preserved : goal.loop-page-preserved
loop-page-preserved c =
    let ps = c.loop-page.pages in
    let first = c.args.first.now in
    let i = c.loop-page.page-index in
    let q = get_or first i 0 in
    let x = c.put_back.new.self in
    let d = c.index-pages-page.result in
    let below : q < length ps = listed_below ps first i c.loop-page.invariant.listed c.loop-page-test.true in
    let was : length (was_of (get_or ps q d)) ≡ 256 = length_was ps q d c.loop-page.invariant.whole below in
    let gone : own_count (own_pages ps) ≡ own_count (own_pages (set ps q x)) + (1 - missing (is_own (get_or ps q d))) = own_count-gone ps q x d below c.put_back.ensures.kept in
    record {
      whole = ArePages-set ps q x c.loop-page.invariant.whole (ap length c.put_back.ensures.now ∙ was) (ap length c.put_back.ensures.was ∙ was);
      listed = listed_next ps first i x c.loop-page.invariant.listed c.loop-page-test.true c.put_back.ensures.kept;
      was = map_same was_of ps q x d below c.put_back.ensures.was ∙ c.loop-page.invariant.was;
      spare = elim c.match-put_back.branch [
        | in-Some w ↦
            (let own : missing (is_own (get_or ps q d)) ≡ 0 = ap missing (sym c.put_back.ensures.frame ∙ ap is_some w.in-Some.is) in
            let more : length c.match-put_back.shelf ≡ suc (length c.loop-page.shelf) = ap length (w.shelf-is ∙ w.push.ensures) in
            omega (arith, own, more, gone, c.loop-page.invariant.spare))
        | in_default w ↦
            (let none : missing (is_own (get_or ps q d)) ≡ 1 = ap missing (sym c.put_back.ensures.frame ∙ ap is_some w.in_default.is) in
            let same : length c.match-put_back.shelf ≡ length c.loop-page.shelf = ap length w.shelf-is in
            omega (arith, none, same, gone, c.loop-page.invariant.spare))
      ];
      few = elim c.match-put_back.branch [
        | in-Some w ↦
            (let more : length c.match-put_back.shelf ≡ suc (length c.loop-page.shelf) = ap length (w.shelf-is ∙ w.push.ensures) in
            omega (arith, more, c.loop-page.invariant.few))
        | in_default w ↦
            (let same : length c.match-put_back.shelf ≡ length c.loop-page.shelf = ap length w.shelf-is in
            omega (arith, same, c.loop-page.invariant.few))
      ];
    }

pub returns-clause-now : goal.returns-clause-now
returns-clause-now c =
    let kept : kept_pages c.loop-page.pages ≡ replicate (length c.loop-page.pages) false = listed_all c.loop-page.pages c.args.first.now c.loop-page.page-index c.loop-page.invariant.listed c.loop-page-test.false in
    sym (none_was c.loop-page.pages (length c.loop-page.pages) kept) ∙ c.loop-page.invariant.was

pub returns-clause-kept : goal.returns-clause-kept
returns-clause-kept c =
    listed_all c.loop-page.pages c.args.first.now c.loop-page.page-index c.loop-page.invariant.listed c.loop-page-test.false ∙ ap (λ n. replicate n false) c.loop-page.auto.pages

pub returns-clause-spare : goal.returns-clause-spare
returns-clause-spare c =
    let kept : kept_pages c.loop-page.pages ≡ replicate (length c.loop-page.pages) false = listed_all c.loop-page.pages c.args.first.now c.loop-page.page-index c.loop-page.invariant.listed c.loop-page-test.false in
    let none : own_count (own_pages c.loop-page.pages) ≡ 0 = ap own_count (none_own c.loop-page.pages (length c.loop-page.pages) kept) ∙ own_count-none (length c.loop-page.pages) in
    omega (arith, none, c.loop-page.invariant.spare)
