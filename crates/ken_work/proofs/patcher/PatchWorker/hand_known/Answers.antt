use Rattle.std.proofs.Common.{◌≡◌, ◌+◌, ◌∷◌, [], ◌++◌, ◌∙◌, List, length, sym, ap, append_assoc, arith, rules}
use Rattle.ken_links.specs.Rings.{popped, known}
use Rattle.ken_work.specs.declared.items.Frozen.{Frozen}
use Rattle.ken_work.proofs.TakenOver.{one_more}
use Rattle.ken_work.proofs.patcher.PatchWorker.hand_known.Goals as goal

pub loop-moved-preserved : goal.loop-moved-preserved
loop-moved-preserved g c =
    let inv = c.loop-moved.invariant in
    let pop = c.pop_known-frozen in
    let one : length (known c.loop-moved.self.pages) ≡ length (known pop.new.self) + 1 = omega (arith, ap (λ (fs : List Frozen). length fs) pop.ensures.known) in
    record {
      ring = search (rules, inv.ring, pop.ensures.ring);
      settled = inv.settled;
      count = pop.ensures.nones ∙ inv.count;
      so_far = one_more g.D.Disk.told g.D.Disk.size c.loop-moved._moved (popped c.args.self.now.pages) (popped c.loop-moved.self.pages) (popped pop.new.self) pop.result c.args.self.now.side c.loop-moved.self.side c.hand.new.side
          inv.so_far pop.ensures.popped c.hand.ensures.handed;
      all = ap (λ (fs : List Frozen). fs ++ known pop.new.self) pop.ensures.popped ∙ append_assoc (popped c.loop-moved.self.pages) (pop.result ∷ []) (known pop.new.self)
          ∙ ap (λ (fs : List Frozen). popped c.loop-moved.self.pages ++ fs) (sym pop.ensures.known) ∙ inv.all;
      left = omega (arith, inv.left, one);
      room = omega (arith, inv.room, one, c.hand.ensures.room, c.hand.ensures.count);
    }
