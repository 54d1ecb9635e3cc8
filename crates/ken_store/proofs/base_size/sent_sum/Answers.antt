use Rattle.std.proofs.Common.{ℕ, ◌+◌, length, take, filter, map, ap, sym, ◌∙◌, arith}
use Rattle.std.specs.List.{flat_map}
use Rattle.ken_record.specs.Spelling.{due}
use Rattle.ken_record.proofs.Sizes.{due_long}
use Rattle.ken_store.specs.Turnovers.{due_of, is_due}
use Rattle.ken_store.proofs.Sizing.{kept_more_of}
use Rattle.ken_store.proofs.base_size.sent_sum.Goals as goal

pub loop-sent-preserved : goal.loop-sent-preserved
loop-sent-preserved c =
    let within = rw c.sends-sent-items.ensures at c.loop-sent-test.true in
    let is = rw c.sends-sent-items.ensures at c.sent-item.is in
    let more = kept_more_of due (is_due c.args.acked.now c.args.to) (due_of c.args.item.now.stamp) c.args.item.now.sends c.loop-sent.sent-index c.sent-item.result (19 + c.len.result) within is (due_long (due_of c.args.item.now.stamp c.sent-item.result) ∙ ap (λ (n : ℕ). 19 + n) (sym c.len.ensures)) in
    record {
      size = ap (λ (n : ℕ). n + c.due_len-size.result) c.loop-sent.invariant.size ∙ ap (λ (n : ℕ). length (flat_map due (filter (is_due c.args.acked.now c.args.to) (map (due_of c.args.item.now.stamp) (take c.loop-sent.sent-index c.args.item.now.sends)))) + n) c.due_len-size.ensures.size ∙ sym more;
      most = omega (arith, c.due_len-size.ensures.most, c.loop-sent.invariant.most);
    }
