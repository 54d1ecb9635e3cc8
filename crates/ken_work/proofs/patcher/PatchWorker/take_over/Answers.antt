use Rattle.std.proofs.Common.{◌∙◌, arith, rules}
use Rattle.ken_links.specs.Rings.{popped}
use Rattle.ken_work.proofs.TakenOver.{one_more}
use Rattle.ken_work.proofs.patcher.PatchWorker.take_over.Goals as goal

pub loop-given-preserved : goal.loop-given-preserved
loop-given-preserved g c =
    let inv = c.loop-given.invariant in
    record {
      ring = search (rules, inv.ring, c.in-Some.ensures.ring);
      settled = inv.settled;
      count = c.in-Some.ensures.counted ∙ inv.count;
      so_far = one_more g.D.Disk.told g.D.Disk.size c.loop-given._given (popped c.args.self.now.pages) (popped c.loop-given.self.pages) (popped c.pop.new.self) c.in-Some.frozen c.args.self.now.side c.loop-given.self.side c.hand.new.side
          inv.so_far c.in-Some.ensures.popped c.hand.ensures.handed;
      room = omega (arith, inv.room, c.hand.ensures.room, c.hand.ensures.count);
    }
