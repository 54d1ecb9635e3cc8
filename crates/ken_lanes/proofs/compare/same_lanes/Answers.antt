use Rattle.std.proofs.lemmas.Simd.{length-chunk}
use Rattle.ken_lanes.proofs.Blocks.{same_lanes_of}
use Rattle.ken_lanes.proofs.compare.same_lanes.Goals as goal

pub returns : goal.returns
returns c = same_lanes_of _ _ (length-chunk c.args.at 32 c.args.a.now c.requires.a) (length-chunk c.args.at 32 c.args.b.now c.requires.b)
