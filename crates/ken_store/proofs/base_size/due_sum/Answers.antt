use Rattle.std.proofs.Common.{ℕ, ◌+◌, length, take, filter, ap, sym, ◌∙◌, arith}
use Rattle.std.specs.List.{flat_map}
use Rattle.ken_record.specs.Spelling.{due}
use Rattle.ken_record.proofs.Sizes.{due_long}
use Rattle.ken_store.specs.Turnovers.{is_due}
use Rattle.ken_store.proofs.Sizing.{kept_more}
use Rattle.ken_store.proofs.base_size.due_sum.Goals as goal

pub loop-message-preserved : goal.loop-message-preserved
loop-message-preserved c =
    let more = kept_more due (is_due c.args.acked.now c.args.to) c.args.messages.now c.loop-message.message-index c.message-item.result (19 + c.len.result) c.loop-message-test.true c.message-item.is (due_long c.message-item.result ∙ ap (λ (n : ℕ). 19 + n) (sym c.len.ensures)) in
    record {
      size = ap (λ (n : ℕ). n + c.due_len-size.result) c.loop-message.invariant.size ∙ ap (λ (n : ℕ). length (flat_map due (filter (is_due c.args.acked.now c.args.to) (take c.loop-message.message-index c.args.messages.now))) + n) c.due_len-size.ensures.size ∙ sym more;
      most = omega (arith, c.due_len-size.ensures.most, c.loop-message.invariant.most);
    }
