use Rattle.std.proofs.Common.{◌+◌, ◌-◌, ◌≤◌, eq-eqb, refl, arith}
use Rattle.ken_model.specs.Layout.{head_bytes}
use Rattle.ken_alloc.specs.Frames.{frames_of}
use Rattle.ken_alloc.proofs.Covered.{loses_either, no_gap}
use Rattle.ken_alloc.proofs.Held.{KeepsOutside-gap}
use Rattle.ken_alloc.proofs.carve.close.Goals as goal

pub returns-clause-others : goal.returns-clause-others
returns-clause-others c =
    let some : c.args.from + 16 ≤ c.args.to = c.requires.room (omega arith) in
    KeepsOutside-gap c.write.result c.args.pages.now c.write.new.pages (head_bytes (c.args.to - c.args.from) 0) c.args.from c.args.to refl some c.requires.within c.write.ensures.bytes c.write.ensures.unchanged

pub returns-then-from-to-clause-frames : goal.returns-then-from-to-clause-frames
returns-then-from-to-clause-frames c = no_gap c.args.from c.args.from c.args.to c.args.pages.now (eq-eqb c.args.from c.args.to c.if-from-to.true)

pub returns-clause-kept : goal.returns-clause-kept
returns-clause-kept c = loses_either c.write.result (frames_of c.args.pages.now) (frames_of c.write.new.pages) c.args.from 16 c.write.ensures.frames c.write.ensures.more
