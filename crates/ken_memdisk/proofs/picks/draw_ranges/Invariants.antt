use Rattle.std.proofs.Common.{◌≤◌, drop, length}
use Rattle.ken_memdisk.proofs.Drawn.{IsDrawn, IsAhead}
use Rattle.ken_memdisk.proofs.picks.draw_ranges.Given as goal

-- the places below the next are drawn, and those of the ranges so far are among them
abbrev pub invariant-loop-range : goal.invariant-loop-range
invariant-loop-range l = record {
  within : l.next ≤ length l.fn.image;
  drawn : IsDrawn l.seen l.fn.image l.ranges l.fn.words l.next l.words l.image;
  ahead : IsAhead l.ranges (drop l.range-index l.ranges) l.next (length l.fn.image);
}

abbrev pub invariant-loop-place : goal.invariant-loop-place
invariant-loop-place l = IsDrawn l.seen l.fn.image l.ranges l.fn.words l.place l.words l.image
