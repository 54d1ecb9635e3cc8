use Rattle.std.proofs.Common.{◌≡◌, take}
use Rattle.ken_store.specs.Ahead.{frame_pages}
use Rattle.ken_store.proofs.kept.frozen_pages.Given as goal

abbrev pub invariant-loop-page : goal.invariant-loop-page
invariant-loop-page l = l.pages.items ≡ frame_pages (take l.page-index l.frames)
