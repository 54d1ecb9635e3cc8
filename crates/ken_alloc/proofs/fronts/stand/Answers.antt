use Rattle.std.proofs.Common.{◌≡◌, ◌+◌, ◌-◌, ◌%◌, length, sym, ap, ◌∙◌, arith, take_all}
use Rattle.std.proofs.lemmas.Slice.Eq.{bytes_eq-Decides}
use Rattle.ken_model.specs.Layout.{part}
use Rattle.ken_alloc.proofs.Begins.{same_more, part_differs}
use Rattle.ken_alloc.proofs.fronts.stand.Goals as goal

pub returns-then-ne : goal.returns-then-ne
returns-then-ne c =
    let done = c.loop-done.done in
    let count = c.min-count.result in
    let at = c.args.at in
    let long = c.rest-rest.ensures.length in
    part_differs c.args.pages.now.bytes c.args.bytes.now c.rest-rest.result.now at done count _ (256 - (at + done) % 256) c.rest-rest.ensures.bytes (omega (arith, long, c.min-count.ensures)) (omega arith) (omega (arith, c.min-count.ensures)) (sym c.ne.ensures ∙ c.if-ne.true)

pub loop-done-preserved : goal.loop-done-preserved
loop-done-preserved c =
    let done = c.loop-done.done in
    let count = c.min-count.result in
    let at = c.args.at in
    let long = c.rest-rest.ensures.length in
    record {
      within = omega (arith, c.min-count.ensures);
      same = same_more c.args.pages.now.bytes c.args.bytes.now c.rest-rest.result.now at done count _ (256 - (at + done) % 256) c.loop-done.invariant.same c.rest-rest.ensures.bytes (omega (arith, long, c.min-count.ensures)) (omega arith) (sym c.ne.ensures ∙ c.if-ne.false);
    }

pub returns : goal.returns
returns c =
    let ys = c.args.bytes.now in
    let all : c.loop-done.done ≡ length ys = omega (arith, c.loop-done.invariant.within) in
    let whole : part c.args.at (length ys) c.args.pages.now.bytes ≡ ys = ap (λ n. part c.args.at n c.args.pages.now.bytes) (sym all) ∙ c.loop-done.invariant.same ∙ take_all c.loop-done.done ys (omega (arith, all)) in
    sym ((bytes_eq-Decides (part c.args.at (length ys) c.args.pages.now.bytes) ys).1 whole)
