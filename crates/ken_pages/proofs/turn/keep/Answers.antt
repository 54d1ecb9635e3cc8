use Rattle.std.proofs.Common.{◌≡◌, ◌<◌, suc, false, length, get_or, replicate, ap, ◌∙◌, arith}
use Rattle.ken_pages.specs.Layout.{now_of}
use Rattle.ken_pages.proofs.Pages.{map_same, ArePages-set, length_now}
use Rattle.ken_pages.proofs.Listed.{listed_below, listed_next, listed_all}
use Rattle.ken_pages.proofs.turn.keep.Goals as goal
use Rattle.ken_pages.proofs.turn.keep.Goals.{in-Some, in_default}

pub bounds-pages-page : goal.bounds-pages-page
bounds-pages-page c = listed_below c.loop-page.pages c.args.first.now c.loop-page.page-index c.loop-page.invariant.listed c.loop-page-test.true

pub loop-page-preserved : goal.loop-page-preserved
loop-page-preserved c =
    let ps = c.loop-page.pages in
    let first = c.args.first.now in
    let i = c.loop-page.page-index in
    let q = get_or first i 0 in
    let x = c.keep.new.self in
    let d = c.index-pages-page.result in
    let below : q < length ps = listed_below ps first i c.loop-page.invariant.listed c.loop-page-test.true in
    let now : length (now_of (get_or ps q d)) ≡ 256 = length_now ps q d c.loop-page.invariant.whole below in
    record {
      whole = ArePages-set ps q x c.loop-page.invariant.whole (ap length c.keep.ensures.now ∙ now) (ap length c.keep.ensures.was ∙ now);
      listed = listed_next ps first i x c.loop-page.invariant.listed c.loop-page-test.true c.keep.ensures.kept;
      now = map_same now_of ps q x d below c.keep.ensures.now ∙ c.loop-page.invariant.now;
      least = elim c.match-keep.branch [
        | in-Some w ↦
            (let more : length c.match-keep.shelf ≡ suc (length c.loop-page.shelf) = ap length (w.shelf-is ∙ w.push.ensures) in
            omega (arith, more, c.loop-page.invariant.least))
        | in_default w ↦
            (let same : length c.match-keep.shelf ≡ length c.loop-page.shelf = ap length w.shelf-is in
            omega (arith, same, c.loop-page.invariant.least))
      ];
      few = elim c.match-keep.branch [
        | in-Some w ↦
            (let more : length c.match-keep.shelf ≡ suc (length c.loop-page.shelf) = ap length (w.shelf-is ∙ w.push.ensures) in
            omega (arith, more, c.loop-page.invariant.few))
        | in_default w ↦
            (let same : length c.match-keep.shelf ≡ length c.loop-page.shelf = ap length w.shelf-is in
            omega (arith, same, c.loop-page.invariant.few))
      ];
    }

pub returns-clause-kept : goal.returns-clause-kept
returns-clause-kept c =
    listed_all c.loop-page.pages c.args.first.now c.loop-page.page-index c.loop-page.invariant.listed c.loop-page-test.false ∙ ap (λ n. replicate n false) c.loop-page.auto.pages
