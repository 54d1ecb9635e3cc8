use Rattle.std.proofs.Common.{◌≡◌, ◌-◌, ◌≤◌, length, take, drop}
use Rattle.ken_pages.specs.Layout.{now_bytes}
use Rattle.ken_pages.proofs.frames.read.Given as goal

abbrev pub invariant-loop-done : goal.invariant-loop-done
invariant-loop-done l = record {
  within : l.done ≤ length l.initial.buf;
  same : take l.done l.buf ≡ take l.done (drop l.at (now_bytes l.pages));
}

abbrev pub decreases-loop-done : goal.decreases-loop-done
decreases-loop-done l = length l.initial.buf - l.done
