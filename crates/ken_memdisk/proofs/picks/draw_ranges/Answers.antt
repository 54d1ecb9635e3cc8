use Rattle.std.proofs.Common.{◌≡◌, ℕ, ◌-◌, ◌<◌, length, subst, refl, arith}
use Rattle.ken_memdisk.proofs.Drawn.{IsDrawn, drawn_none, drawn_on, drawn_more, drawn_all, none_between, none_left, ahead_more, in_here}
use Rattle.ken_memdisk.proofs.picks.draw_ranges.Goals as goal

pub loop-range-init : goal.loop-range-init
loop-range-init c = record {
  within = omega arith;
  drawn = drawn_none _ _ _ _;
  ahead = λ place low within among. among;
}

-- the places up to the range's start are passed by
pub loop-place-init : goal.loop-place-init
loop-place-init c =
    let next = c.loop-range.next in
    let from = c.min-from.result in
    let before = none_between c.args.ranges.now c.loop-range.range-index (length c.args.image.now) c.loop-range-test.true next c.requires.rising c.loop-range.invariant.ahead in
    drawn_on _ _ _ _ (from - next) next from _ _ (omega arith) (omega arith)
    (λ place low high. before place low (omega (arith, high)) (omega (arith, low, high)))
    c.loop-range.invariant.drawn

pub loop-place-preserved : goal.loop-place-preserved
loop-place-preserved c =
    let place = c.loop-place.place in
    let within : place < length c.args.image.now = omega arith in
    drawn_more _ _ _ _ place _ _ within c.loop-place.invariant _ _ _
    (in_here c.args.ranges.now c.loop-range.range-index (length c.args.image.now) c.loop-range-test.true place (omega arith) (omega arith))
    c.draw.ensures.byte c.draw.ensures.generator refl

pub loop-range-preserved : goal.loop-range-preserved
loop-range-preserved c =
    let to = c.max-to.result in
    let end : c.loop-place.place ≡ to = omega arith in
    record {
      within = omega arith;
      drawn = subst (λ (n : ℕ). IsDrawn c.args.seen.now c.args.image.now c.args.ranges.now c.args.words.now n c.loop-place.words c.loop-place.image) end c.loop-place.invariant;
      ahead = ahead_more c.args.ranges.now c.loop-range.range-index (length c.args.image.now) c.loop-range-test.true c.loop-range.next to (omega arith)
          (λ place low within. omega (arith, low, within))
          c.loop-range.invariant.ahead;
    }

pub returns : goal.returns
returns c =
    let next = c.loop-range.next in
    let len = length c.args.image.now in
    let all = drawn_on _ _ _ _ (len - next) next len _ _ (omega arith) (omega arith)
    (none_left c.args.ranges.now c.loop-range.range-index len next c.loop-range-test.false c.loop-range.invariant.ahead)
    c.loop-range.invariant.drawn in
    drawn_all _ _ _ _ len _ _ refl all
