use Rattle.std.proofs.Common.{◌≡◌, ℕ, ◌+◌, ◌-◌, length, take, drop, refl, subst, arith}
use Rattle.ken_model.specs.Layout.{part}
use Rattle.ken_model.specs.Checks.{IsCell}
use Rattle.ken_model.proofs.Walked.{checked_more, checked_all}
use Rattle.ken_model.proofs.Stuck.{breaks_there}
use Rattle.ken_model.proofs.OnePlace.{broken_none}
use Rattle.ken_model.proofs.reading.blocks.Goals as goal

pub returns-in_default-clause-none : goal.returns-in_default-clause-none
returns-in_default-clause-none c =
    let xs = c.args.bytes.now in
    let at = c.loop-at.at in
    let sixteen : 16 ≡ at + 16 - at = omega arith in
    broken_none xs at (breaks_there xs at c.loop-at.after_gap c.loop-at.blocks.items c.loop-at.invariant
    (λ span len (cell : IsCell (part at 16 xs) (length xs - at) span len c.loop-at.after_gap). c.in_default.ensures.none span len (subst (λ (k : ℕ). IsCell (take k (drop at xs)) (length xs - at) span len c.loop-at.after_gap) sixteen cell))
    c.requires c.loop-at-test.true)

pub loop-at-preserved : goal.loop-at-preserved
loop-at-preserved c =
    let xs = c.args.bytes.now in
    let at = c.loop-at.at in
    let head = c.in-Some.head in
    let sixteen : at + 16 - at ≡ 16 = omega arith in
    let cell : IsCell (part at 16 xs) (length xs - at) head.span head.len c.loop-at.after_gap = subst (λ (k : ℕ). IsCell (take k (drop at xs)) (length xs - at) head.span head.len c.loop-at.after_gap) sixteen c.in-Some.ensures.some in
    rw c.in_ok-collect.ensures (checked_more xs at head.span head.len c.loop-at.after_gap c.loop-at.blocks.items c.loop-at.invariant cell (at + head.span) _ refl refl)

pub returns-clause-some : goal.returns-clause-some
returns-clause-some c = checked_all c.args.bytes.now c.loop-at.at c.loop-at.after_gap c.loop-at.blocks.items c.requires c.loop-at.invariant (omega arith)
