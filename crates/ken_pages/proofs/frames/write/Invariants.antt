use Rattle.std.proofs.Common.{◌≡◌, ◌-◌, ◌≤◌, length, take}
use Rattle.ken_frame.specs.Written.{written}
use Rattle.ken_pages.specs.Layout.{ArePages, SameTurn, now_bytes}
use Rattle.ken_pages.proofs.frames.write.Given as goal

abbrev pub invariant-loop-done : goal.invariant-loop-done
invariant-loop-done l = record {
  within : l.done ≤ length l.bytes;
  bytes : now_bytes l.pages ≡ written (now_bytes l.initial.pages) l.at (take l.done l.bytes);
  whole : ArePages l.pages;
  turn : SameTurn l.initial.pages l.pages;
}

abbrev pub decreases-loop-done : goal.decreases-loop-done
decreases-loop-done l = length l.bytes - l.done
