use Rattle.std.proofs.Common.{◌≡◌, ℕ, List, Bool, ◌+◌, ◌-◌, ◌≤◌, suc, true, false, get_or, set, refl, sym, ap, ◌∙◌, arith}
use Rattle.ken_pages.specs.Paged.{with_own, lacking, missing}
use Rattle.ken_pages.specs.Layout.{is_own, own_pages}
use Rattle.ken_pages.proofs.Pages.{length_map}
use Rattle.ken_pages.proofs.Counted.{lacking-none, lacking-more, lacking-grows, with_own-none, with_own-more, get_or-with_own}
use Rattle.ken_pages.proofs.turn.take_all.Goals as goal

pub loop-page-init : goal.loop-page-init
loop-page-init c =
    let own = own_pages c.args.pages.now in
    let none : c.args.from - c.args.from ≡ 0 = omega arith in
    let no : lacking c.args.from (c.args.from - c.args.from) own ≡ 0 = ap (λ n. lacking c.args.from n own) none ∙ lacking-none c.args.from own in
    record {
      past = omega arith;
      whole = c.requires.whole;
      now = refl;
      was = refl;
      own = sym (ap (λ n. with_own c.args.from n own) none ∙ with_own-none c.args.from own);
      spare = omega (arith, no);
      listed = c.requires.listed;
      room = c.requires.room;
    }

pub overflow_cast-page : goal.overflow_cast-page
overflow_cast-page c = record { fits = omega (arith, c.loop-page-test.true, c.requires.within, c.requires.few) }

-- the page's own mark is as it was at first
here : (from page : ℕ) (own now : List Bool) → from ≤ page → now ≡ with_own from (page - from) own → get_or now page false ≡ get_or own page false
here from page own now past is = ap (λ o. get_or o page false) is ∙ get_or-with_own from (page - from) page own (omega (arith, past))

pub take-requires-clause-spare : goal.take-requires-clause-spare
take-requires-clause-spare c =
    let own = own_pages c.args.pages.now in
    let from = c.args.from in
    let n = c.loop-page.page - from in
    let mark : missing (get_or (own_pages c.loop-page.pages) c.loop-page.page false) ≡ missing (get_or own c.loop-page.page false) = ap missing (here from c.loop-page.page own (own_pages c.loop-page.pages) c.loop-page.invariant.past c.loop-page.invariant.own) in
    let more : lacking from (suc n) own ≡ lacking from n own + missing (get_or own c.loop-page.page false) = lacking-more from n c.loop-page.page own (omega (arith, c.loop-page.invariant.past)) (omega (arith, c.loop-page-test.true, c.requires.within, length_map is_own c.args.pages.now)) in
    let all : lacking from (suc n) own ≤ lacking from (c.args.end - from) own = lacking-grows from (suc n) (c.args.end - from) own (omega (arith, c.loop-page-test.true, c.loop-page.invariant.past)) in
    omega (arith, mark, more, all, c.requires.spare, c.loop-page.invariant.spare)

pub loop-page-preserved : goal.loop-page-preserved
loop-page-preserved c =
    let own = own_pages c.args.pages.now in
    let from = c.args.from in
    let n = c.loop-page.page - from in
    let mark : missing (get_or (own_pages c.loop-page.pages) c.loop-page.page false) ≡ missing (get_or own c.loop-page.page false) = ap missing (here from c.loop-page.page own (own_pages c.loop-page.pages) c.loop-page.invariant.past c.loop-page.invariant.own) in
    let more : lacking from (suc n) own ≡ lacking from n own + missing (get_or own c.loop-page.page false) = lacking-more from n c.loop-page.page own (omega (arith, c.loop-page.invariant.past)) (omega (arith, c.loop-page-test.true, c.requires.within, length_map is_own c.args.pages.now)) in
    let all : lacking from (suc n) own ≤ lacking from (c.args.end - from) own = lacking-grows from (suc n) (c.args.end - from) own (omega (arith, c.loop-page-test.true, c.loop-page.invariant.past)) in
    let step : suc n ≡ c.loop-page.page + 1 - from = omega (arith, c.loop-page.invariant.past) in
    let same : lacking from (c.loop-page.page + 1 - from) own ≡ lacking from (suc n) own = ap (λ m. lacking from m own) (sym step) in
    record {
      past = omega (arith, c.loop-page.invariant.past);
      whole = c.take.ensures.whole;
      now = c.take.ensures.now ∙ c.loop-page.invariant.now;
      was = c.take.ensures.was ∙ c.loop-page.invariant.was;
      own = c.take.ensures.own ∙ ap (λ o. set o c.loop-page.page true) c.loop-page.invariant.own ∙ with_own-more from n c.loop-page.page own (omega (arith, c.loop-page.invariant.past)) ∙ ap (λ m. with_own from m own) step;
      spare = omega (arith, mark, more, all, same, c.take.ensures.spare, c.loop-page.invariant.spare, c.requires.spare);
      listed = c.take.ensures.listed;
      room = c.take.ensures.room;
    }
