use Rattle.std.proofs.Common.{ℕ, ◌+◌, List, drop, get_or, subst, arith}
use Rattle.std.proofs.lemmas.List.{drop_more, drop_all}
use Rattle.ken_memdisk.specs.Platters.{Differ}
use Rattle.ken_memdisk.proofs.Caught.{differ_copied, differ_nowhere}
use Rattle.ken_memdisk.proofs.bytes.copy_ranges.Goals as goal

pub loop-range-preserved : goal.loop-range-preserved
loop-range-preserved c =
    let i = c.loop-range.range-index in
    let left = drop_more c.args.ranges.now i (0, 0) c.loop-range-test.true in
    rw c.copy_range.ensures (differ_copied (get_or c.args.ranges.now i (0, 0)) (drop (i + 1) c.args.ranges.now) c.args.from.now c.loop-range.to (omega (arith, c.loop-range.auto, c.requires.len))
    (subst (λ (l : List (ℕ × ℕ)). Differ l c.args.from.now c.loop-range.to) left c.loop-range.invariant))

pub returns : goal.returns
returns c =
    differ_nowhere c.args.from.now c.loop-range.to (omega (arith, c.loop-range.auto, c.requires.len))
    (subst (λ (l : List (ℕ × ℕ)). Differ l c.args.from.now c.loop-range.to) (drop_all c.loop-range.range-index c.args.ranges.now c.loop-range-test.false) c.loop-range.invariant)
