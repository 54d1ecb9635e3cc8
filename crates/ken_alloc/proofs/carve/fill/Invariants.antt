use Rattle.std.proofs.Common.{◌≡◌, ◌+◌, ◌-◌, ◌≤◌, replicate}
use Rattle.ken_frame.specs.Written.{written}
use Rattle.ken_alloc.specs.Kept.{KeepsOutside}
use Rattle.ken_alloc.specs.Frames.{frames_of, taken}
use Rattle.ken_alloc.proofs.carve.fill.Given as goal

abbrev pub invariant-loop-done : goal.invariant-loop-done
invariant-loop-done l = record {
  fits : l.done ≤ l.len;
  bytes : l.pages.bytes ≡ written l.fn.pages.bytes l.at (replicate l.done 0);
  others : KeepsOutside l.at (l.at + l.len) l.fn.pages.bytes l.pages.bytes;
  begun : l.pages.begun ≡ l.fn.pages.begun;
  frames : frames_of l.pages ≡ taken l.at l.done (frames_of l.fn.pages);
}

abbrev pub decreases-loop-done : goal.decreases-loop-done
decreases-loop-done l = l.len - l.done
