use Rattle.std.proofs.Common.{◌≡◌, ◌+◌, ◌-◌, ◌*◌, ◌≤◌, length, arith}
use Rattle.ken_pages.specs.Layout.{now_bytes}
use Rattle.ken_pages.proofs.Parts.{take_more_read}
use Rattle.ken_pages.proofs.Pages.{length_pages}
use Rattle.ken_pages.proofs.frames.read.Goals as goal

pub loop-done-preserved : goal.loop-done-preserved
loop-done-preserved c =
    let long : length (now_bytes c.args.pages.now) ≡ 256 * length c.args.pages.now = length_pages c.args.pages.now c.requires.whole in
    let part : c.loop-done.done + c.min-part.result - c.loop-done.done ≡ c.min-part.result = omega arith in
    let fits : c.loop-done.done + c.min-part.result ≤ length c.loop-done.buf = omega arith in
    let within : c.args.at + c.loop-done.done + c.min-part.result ≤ length (now_bytes c.args.pages.now) = omega arith in
    record {
      within = omega arith;
      same = take_more_read (now_bytes c.args.pages.now) c.loop-done.buf c.read_part.new.buf c.args.at c.loop-done.done c.min-part.result (c.loop-done.done + c.min-part.result - c.loop-done.done) part fits within c.loop-done.invariant.same c.read_part.ensures;
    }
