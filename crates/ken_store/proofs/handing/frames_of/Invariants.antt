use Rattle.std.proofs.Common.{◌≡◌, take}
use Rattle.ken_store.specs.Ahead.{frame_pages}
use Rattle.ken_store.proofs.handing.frames_of.Given as goal

abbrev pub invariant-loop-page : goal.invariant-loop-page
invariant-loop-page l = frame_pages l.frames.items ≡ take l.page-index l.pages
