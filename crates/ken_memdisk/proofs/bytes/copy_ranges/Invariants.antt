use Rattle.std.proofs.Common.{drop}
use Rattle.ken_memdisk.specs.Platters.{Differ}
use Rattle.ken_memdisk.proofs.bytes.copy_ranges.Given as goal

-- the bytes differ only in the ranges that are left
abbrev pub invariant-loop-range : goal.invariant-loop-range
invariant-loop-range l = Differ (drop l.range-index l.ranges) l.from l.to
