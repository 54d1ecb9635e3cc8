use Rattle.std.proofs.Common.{◌≡◌, ◌+◌, ◌-◌, ◌*◌, ◌≤◌, length, arith}
use Rattle.ken_pages.specs.Layout.{now_bytes}
use Rattle.ken_pages.proofs.Parts.{written_more}
use Rattle.ken_pages.proofs.Pages.{length_pages, SameTurn-trans}
use Rattle.ken_pages.proofs.frames.write.Goals as goal

pub loop-done-preserved : goal.loop-done-preserved
loop-done-preserved c =
    let long : length (now_bytes c.args.pages.now) ≡ 256 * length c.args.pages.now = length_pages c.args.pages.now c.requires.whole in
    let part : c.loop-done.done + c.min-part.result - c.loop-done.done ≡ c.min-part.result = omega arith in
    let within : c.args.at ≤ length (now_bytes c.args.pages.now) = omega arith in
    record {
      within = omega arith;
      bytes = written_more (now_bytes c.args.pages.now) (now_bytes c.loop-done.pages) (now_bytes c.write_part.new.pages) c.args.bytes.now c.args.at c.loop-done.done c.min-part.result (c.loop-done.done + c.min-part.result - c.loop-done.done) part c.loop-done.invariant.within within c.loop-done.invariant.bytes c.write_part.ensures.bytes;
      whole = c.write_part.ensures.whole;
      turn = SameTurn-trans c.args.pages.now c.loop-done.pages c.write_part.new.pages c.loop-done.invariant.turn c.write_part.ensures.turn;
    }
