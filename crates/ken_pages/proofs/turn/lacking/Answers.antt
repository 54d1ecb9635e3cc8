use Rattle.std.proofs.Common.{◌≡◌, ◌+◌, ◌-◌, ◌<◌, suc, false, length, get_or, sym, ap, ◌∙◌, arith}
use Rattle.ken_pages.specs.Paged.{lacking, missing}
use Rattle.ken_pages.specs.Layout.{is_own, own_pages}
use Rattle.ken_pages.proofs.Pages.{at_map, length_map}
use Rattle.ken_pages.proofs.Counted.{lacking-few, lacking-none, lacking-more}
use Rattle.ken_pages.proofs.turn.lacking.Goals as goal
use Rattle.ken_pages.proofs.turn.lacking.Goals.{then-not-is_own, else-not-is_own}

pub loop-page-init : goal.loop-page-init
loop-page-init c =
    let none : c.args.from - c.args.from ≡ 0 = omega arith in
    record {
      past = omega arith;
      so_far = sym (ap (λ n. lacking c.args.from n (own_pages c.args.pages.now)) none ∙ lacking-none c.args.from (own_pages c.args.pages.now));
    }

pub overflow_add-count : goal.overflow_add-count
overflow_add-count c = record { fits = omega (arith, c.ranges.end.fits, c.loop-page-test.true, c.loop-page.invariant.past, c.loop-page.invariant.so_far, lacking-few c.args.from (c.loop-page.page - c.args.from) (own_pages c.args.pages.now)) }

pub loop-page-preserved : goal.loop-page-preserved
loop-page-preserved c =
    let own = own_pages c.args.pages.now in
    let n = c.loop-page.page - c.args.from in
    let below : c.loop-page.page < length c.args.pages.now = omega (arith, c.loop-page-test.true, c.requires.within) in
    let here : get_or own c.loop-page.page false ≡ c.is_own.result = at_map is_own c.args.pages.now c.loop-page.page c.index-pages-page.result false below ∙ ap is_own (sym c.index-pages-page.is) ∙ sym c.is_own.ensures in
    let step : c.loop-page.page + 1 - c.args.from ≡ suc n = omega (arith, c.loop-page.invariant.past) in
    let more : lacking c.args.from (suc n) own ≡ lacking c.args.from n own + missing (get_or own c.loop-page.page false) = lacking-more c.args.from n c.loop-page.page own (omega (arith, c.loop-page.invariant.past)) (omega (arith, below, length_map is_own c.args.pages.now)) in
    record {
      past = omega (arith, c.loop-page.invariant.past);
      so_far = elim c.if-not-is_own.branch [
        | then-not-is_own w ↦
            (let one : missing (get_or own c.loop-page.page false) ≡ 1 = ap missing (here ∙ w.if-not-is_own.true) in
            let now : c.if-not-is_own.count ≡ lacking c.args.from (suc n) own = omega (arith, more, one, w.count-is, c.loop-page.invariant.so_far) in
            now ∙ ap (λ m. lacking c.args.from m own) (sym step))
        | else-not-is_own w ↦
            (let none : missing (get_or own c.loop-page.page false) ≡ 0 = ap missing (here ∙ w.if-not-is_own.false) in
            let now : c.if-not-is_own.count ≡ lacking c.args.from (suc n) own = omega (arith, more, none, w.count-is, c.loop-page.invariant.so_far) in
            now ∙ ap (λ m. lacking c.args.from m own) (sym step))
      ];
    }
