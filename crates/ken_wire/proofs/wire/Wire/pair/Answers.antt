use Rattle.std.proofs.Common.{◌≡◌, ◌+◌, [], ◌∷◌, ◌++◌, length, sym, subst, ◌∙◌, zero-add, rules}
use Rattle.ken_wire.specs.Ends.{from_of, AreEnds, AreNew}
use Rattle.ken_wire.proofs.Wires.{ends_same, ends_added, new_added}
use Rattle.ken_wire.proofs.wire.Wire.pair.Goals as goal

pub loop-node-preserved : goal.loop-node-preserved
loop-node-preserved c =
    let l = c.loop-node in
    let e = c.in_ok-seat.field-0 in
    let take = c.seat.new.self in
    let end = c.in_ok-seat.ensures.end in
    let made = c.in_ok-seat.ensures.made in
    let items : c.push.new.self.items ≡ l.sends.items ++ e ∷ [] = c.in_ok-push.ensures.items in
    let next : from_of e ≡ 0 + length l.sends.items = made.1 ∙ l.invariant.count.1 ∙ sym l.invariant.count.0 ∙ sym (zero-add (length l.sends.items)) in
    record {
      ends = subst (AreEnds 0 take) (sym items) (ends_added 0 take l.sends.items e (ends_same 0 l.take take l.sends.items end.0 l.invariant.ends) next made.0);
      new = subst AreNew (sym items) (new_added l.sends.items e l.invariant.new made.2 c.in_ok-seat.ensures.new);
      count = search rules;
      take = search rules;
    }
