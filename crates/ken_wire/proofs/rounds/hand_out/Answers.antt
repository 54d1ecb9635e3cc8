use Rattle.std.proofs.Common.{◌≡◌, ◌+◌, ◌∷◌, [], ◌++◌, ◌<◌, ℕ, length, List, sym, ap, subst, ◌∙◌, arith, rules}
use Rattle.std.specs.Prelude.{slice_index_or}
use Rattle.std.proofs.lemmas.List.{get_or-set_other, get_or_default, length-set, length-append}
use Rattle.ken_wire.specs.declared.send_end.SendEnd.{SendEnd}
use Rattle.ken_wire.specs.declared.take_end.TakeEnd.{TakeEnd}
use Rattle.ken_wire.specs.Ends.{made_of, taker_of}
use Rattle.ken_wire.specs.Nets.{AreFrom}
use Rattle.ken_wire.specs.Rounds.{IsSeated, AtEach}
use Rattle.ken_wire.proofs.ByNode.{made_more, own_more, seated_more}
use Rattle.ken_wire.proofs.rounds.hand_out.Goals as goal

pub loop-place-preserved : goal.loop-place-preserved
loop-place-preserved c =
    let l = c.loop-place in
    let n = l.place in
    let old = c.args.takes.now in
    let end = c.in_ok-seat.field-0 in
    let d = c.index-takes-place.result in
    let a = slice_index_or l.takes n d in
    let b = c.seat.new.self in
    let made = c.in_ok-seat.ensures.made in
    let kept = c.in_ok-seat.ensures.end in
    let items : c.push.new.self.items ≡ l.ends.items ++ end ∷ [] = c.in_ok-push.ensures.items in
    let low : n < length l.takes = search rules in
    let a_is : a ≡ slice_index_or old n d = l.invariant.others n d (omega arith) low in
    let a_read : a ≡ slice_index_or l.takes n a = get_or_default l.takes n d a low in
    let next = c.requires.next n d (omega (arith, low, c.loop-place.auto.takes)) in
    let node : made_of a ≡ c.args.node = subst (λ (x : TakeEnd). made_of x ≡ c.args.node) (sym a_is) next.1 in
    let to : taker_of a ≡ n = subst (λ (x : TakeEnd). taker_of x ≡ n) (sym a_is) next.0 in
    let seated : IsSeated a b end = (kept.0, kept.1, kept.2, made.3, made.1, made.0, made.2, c.in_ok-seat.ensures.new) in
    record {
      count = ap (λ (x : List SendEnd). length x) items ∙ length-append l.ends.items (end ∷ []) ∙ ap (λ (k : ℕ). k + 1) l.invariant.count;
      next = made_more (c.args.node + 1) l.takes b n low (kept.0.1 ∙ to) (made.3 ∙ ap (λ (k : ℕ). k + 1) node) l.invariant.next;
      own = subst (AreFrom c.args.node) (sym items) (own_more c.args.node l.ends.items end l.invariant.own (made.1 ∙ node) (made.0.1 ∙ kept.0.1 ∙ to ∙ sym l.invariant.count));
      seated = subst (AtEach IsSeated old _) (sym items) (seated_more old l.takes l.ends.items a b end n (sym l.invariant.count) low a_read seated l.invariant.others l.invariant.seated);
      others = λ k d le there. get_or-set_other l.takes n k b d (λ e. omega (arith, le, e)) ∙ l.invariant.others k d (omega (arith, le)) (omega (arith, there, length-set l.takes n b));
    }
