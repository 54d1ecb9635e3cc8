use Rattle.std.proofs.Common.{◌≡◌, ◌<◌, length, get_or, sym, arith, inl, inr}
use Rattle.ken_lanes.proofs.Blocks.{agree_next, agree_to_the_ends, differ_at}
use Rattle.ken_lanes.proofs.compare.first_difference.Goals as goal
use Rattle.ken_lanes.proofs.compare.first_difference.Goals.{then-loop-at-test+then-at-b+else-a-at, then-loop-at-test+else-at-b, else-loop-at-test}

pub loop-at-preserved : goal.loop-at-preserved
loop-at-preserved c = agree_next c.loop-at.at c.args.a.now c.args.b.now c.loop-at.invariant c.loop-at-test.true c.if-at-b.true c.if-a-at.true

pub returns-then-at-b-2 : goal.returns-then-at-b-2
returns-then-at-b-2 c = sym (agree_to_the_ends c.loop-at.at c.args.a.now c.args.b.now c.loop-at.invariant c.if-at-a.true c.if-at-b-2.true)

pub returns-else-at-a : goal.returns-else-at-a
returns-else-at-a c =
    let stopped : c.loop-at.at < length c.args.a.now → c.loop-at.at < length c.args.b.now → get_or c.args.a.now c.loop-at.at 0 ≡ get_or c.args.b.now c.loop-at.at 0 → ⊥
    = λ p q e. elim c.loop-at-test.branch [ then-loop-at-test+then-at-b+else-a-at w ↦ w.if-a-at.false e | then-loop-at-test+else-at-b w ↦ absurd (omega (arith, w.if-at-b.false)) | else-loop-at-test w ↦ absurd (omega (arith, w.loop-at-test.false)) ] in
    let ends : c.loop-at.at ≡ length c.args.a.now → c.loop-at.at ≡ length c.args.b.now → ⊥
    = λ p q. elim c.else-at-a.either [ inl both ↦ both.1 q | inr other ↦ other p ] in
    sym (differ_at c.loop-at.at c.args.a.now c.args.b.now c.loop-at.invariant ends stopped)
