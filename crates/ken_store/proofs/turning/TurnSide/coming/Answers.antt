use Rattle.std.proofs.Common.{◌≡◌}
use Rattle.ken_store.specs.Ahead.{frame_pages}
use Rattle.ken_store.specs.Turning.{changed_pages}
use Rattle.ken_store.proofs.Sealing.{frames_are}
use Rattle.ken_store.proofs.turning.TurnSide.coming.Goals as goal

pub returns-clause-item : goal.returns-clause-item
returns-clause-item g c =
    let pages : frame_pages c.in_ok-frames.frames.items ≡ changed_pages c.args.self.now.objects.begun c.args.self.now.objects.bytes = frames_are c.in_ok-frames.frames.items c.args.self.now.objects.bytes c.args.self.now.objects.begun c.requires.begun c.in_ok-frames.ensures.pages in
    rw pages at (rw c.deref.ensures.value at c.in_ok-item.ensures)

pub returns-clause-pages : goal.returns-clause-pages
returns-clause-pages g c = frames_are c.in_ok-frames.frames.items c.args.self.now.objects.bytes c.args.self.now.objects.begun c.requires.begun c.in_ok-frames.ensures.pages
