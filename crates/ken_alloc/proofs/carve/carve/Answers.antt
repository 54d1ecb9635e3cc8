use Rattle.std.proofs.Common.{◌+◌, ◌≤◌, length, ap, ◌∙◌, sym, subst, arith}
use Rattle.std.proofs.lemmas.Result.{on_ok_weaker}
use Rattle.ken_alloc.specs.Frames.{Frames, frames_of, gap_head, alloc_len, taken, lacks}
use Rattle.ken_alloc.proofs.Carved.{carved}
use Rattle.ken_alloc.proofs.Covered.{TakesThree, takes_three, loses_either, loses_on}
use Rattle.ken_alloc.proofs.carve.carve.Goals as goal

pub returns-clause-bytes : goal.returns-clause-bytes
returns-clause-bytes c =
    let old = c.args.pages.now.bytes in
    let closed = c.close.new.pages.bytes in
    let filled = c.fill.new.pages.bytes in
    let within : c.args.gap.from + 16 ≤ length closed = omega (arith, c.close.ensures.others.long) in
    on_ok_weaker c.write.result (λ is. carved old closed filled c.write.new.pages.bytes c.args.gap.from c.args.len _ c.args.gap.to (omega arith) within c.in_ok-close.ensures.bytes c.in_ok-fill.ensures.bytes is) c.write.ensures.bytes

pub returns-in_err-close-clause-covered : goal.returns-in_err-close-clause-covered
returns-in_err-close-clause-covered c covered =
    let three : TakesThree (c.args.gap.from + (16 + c.rounded-span.result)) (gap_head (c.args.gap.from + (16 + c.rounded-span.result)) c.args.gap.to) c.args.gap.from c.args.len (alloc_len (c.args.gap.from + 16) c.args.len c.args.gap.to) (frames_of c.args.pages.now) =
    takes_three (c.args.gap.from + (16 + c.rounded-span.result)) c.args.gap.from c.args.len c.args.gap.to c.args.pages.now (omega (arith, c.rounded-span.ensures)) c.requires.some in
    let ok = c.in_err-close.ensures.covered (three.first covered) in
    absurd (let none : ⊥ = cc ok in none)

pub returns-in_err-fill-clause-covered : goal.returns-in_err-fill-clause-covered
returns-in_err-fill-clause-covered c covered =
    let three : TakesThree (c.args.gap.from + (16 + c.rounded-span.result)) (gap_head (c.args.gap.from + (16 + c.rounded-span.result)) c.args.gap.to) c.args.gap.from c.args.len (alloc_len (c.args.gap.from + 16) c.args.len c.args.gap.to) (frames_of c.args.pages.now) =
    takes_three (c.args.gap.from + (16 + c.rounded-span.result)) c.args.gap.from c.args.len c.args.gap.to c.args.pages.now (omega (arith, c.rounded-span.ensures)) c.requires.some in
    let here : lacks (c.args.gap.from + 16) c.args.len (frames_of c.close.new.pages) ≤ c.close.new.pages.spare = subst (λ (g : Frames). lacks (c.args.gap.from + 16) c.args.len g ≤ g.spare) (sym c.in_ok-close.ensures.frames) (three.second covered) in
    let ok = c.in_err-fill.ensures.covered here in
    absurd (let none : ⊥ = cc ok in none)

pub returns-clause-frames : goal.returns-clause-frames
returns-clause-frames c =
    let three : TakesThree (c.args.gap.from + (16 + c.rounded-span.result)) (gap_head (c.args.gap.from + (16 + c.rounded-span.result)) c.args.gap.to) c.args.gap.from c.args.len (alloc_len (c.args.gap.from + 16) c.args.len c.args.gap.to) (frames_of c.args.pages.now) =
    takes_three (c.args.gap.from + (16 + c.rounded-span.result)) c.args.gap.from c.args.len c.args.gap.to c.args.pages.now (omega (arith, c.rounded-span.ensures)) c.requires.some in
    on_ok_weaker c.write.result (λ is. is ∙ ap (taken c.args.gap.from 16) (c.in_ok-fill.ensures.frames ∙ ap (taken (c.args.gap.from + 16) c.args.len) c.in_ok-close.ensures.frames) ∙ three.same) c.write.ensures.frames

pub returns-clause-covered : goal.returns-clause-covered
returns-clause-covered c covered =
    let three : TakesThree (c.args.gap.from + (16 + c.rounded-span.result)) (gap_head (c.args.gap.from + (16 + c.rounded-span.result)) c.args.gap.to) c.args.gap.from c.args.len (alloc_len (c.args.gap.from + 16) c.args.len c.args.gap.to) (frames_of c.args.pages.now) =
    takes_three (c.args.gap.from + (16 + c.rounded-span.result)) c.args.gap.from c.args.len c.args.gap.to c.args.pages.now (omega (arith, c.rounded-span.ensures)) c.requires.some in
    c.write.ensures.covered (subst (λ (g : Frames). lacks c.args.gap.from 16 g ≤ g.spare) (sym (c.in_ok-fill.ensures.frames ∙ ap (taken (c.args.gap.from + 16) c.args.len) c.in_ok-close.ensures.frames)) (three.third covered))

pub returns-clause-kept : goal.returns-clause-kept
returns-clause-kept c =
    loses_on (frames_of c.args.pages.now) (frames_of c.close.new.pages) (frames_of c.write.new.pages) c.close.ensures.kept
    (loses_on (frames_of c.close.new.pages) (frames_of c.fill.new.pages) (frames_of c.write.new.pages) c.fill.ensures.kept
    (loses_either c.write.result (frames_of c.fill.new.pages) (frames_of c.write.new.pages) c.args.gap.from 16 c.write.ensures.frames c.write.ensures.more))
