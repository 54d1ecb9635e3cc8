use Rattle.std.proofs.Common.{◌≡◌, ◌∷◌, ◌∙◌, rules}
use Rattle.std.specs.Vec.Iter.{into_iter_items}
use Rattle.ken_wire.proofs.Wires.{ends_left, sents_left}
use Rattle.ken_wire.proofs.wire.close.Goals as goal

pub loop-end-preserved : goal.loop-end-preserved
loop-end-preserved c =
    let l = c.loop-end in
    let first : into_iter_items l.end-iterator ≡ c.in-Some.end ∷ into_iter_items c.next.new.self = search rules in
    let end = c.join.ensures.end in
    record {
      ends = ends_left l.take c.join.new.self c.in-Some.end (into_iter_items l.end-iterator) (into_iter_items c.next.new.self) first l.invariant.ends end.0 c.join.ensures.joined;
      all = sents_left l.take c.join.new.self c.in-Some.end (into_iter_items l.end-iterator) (into_iter_items c.next.new.self) first c.join.ensures.joined ∙ l.invariant.all;
      take = search rules;
    }
