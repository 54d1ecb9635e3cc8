use Rattle.std.proofs.Common.{◌≡◌, ◌+◌, ◌∷◌, [], ◌++◌, ◌∙◌, List, length, sym, ap, append_assoc, arith, rules}
use Rattle.ken_links.specs.Rings.{popped, known}
use Rattle.ken_work.proofs.Latest.{told_more}
use Rattle.ken_work.proofs.meeting.tell_all.Goals as goal

pub loop-item-preserved : goal.loop-item-preserved
loop-item-preserved g c =
    let inv = c.loop-item.invariant in
    let pop = c.pop_known in
    let one : length (known c.loop-item.pop) ≡ length (known pop.new.self) + 1 = omega (arith, ap (λ (xs : List g.row.A.Denot). length xs) pop.ensures.known) in
    record {
      end = search (rules, inv.end, pop.ensures.ring);
      count = pop.ensures.nones ∙ inv.count;
      told = told_more g.A.News.says (popped c.args.pop.now) (popped c.loop-item.pop) (popped pop.new.self) c.args.known.now c.loop-item.known c.fact.result pop.result inv.told pop.ensures.popped c.fact.ensures;
      all = ap (λ (xs : List g.row.A.Denot). xs ++ known pop.new.self) pop.ensures.popped ∙ append_assoc (popped c.loop-item.pop) (pop.result ∷ []) (known pop.new.self)
          ∙ ap (λ (xs : List g.row.A.Denot). popped c.loop-item.pop ++ xs) (sym pop.ensures.known) ∙ inv.all;
      left = omega (arith, inv.left, one);
    }
