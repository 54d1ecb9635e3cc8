use Rattle.std.proofs.Common.{ℕ, ◌+◌, ◌++◌, length, ap, sym, ◌∙◌, arith}
use Rattle.std.specs.List.{flat_map, range_with_len}
use Rattle.ken_record.specs.Spelling.{due}
use Rattle.ken_store.specs.Turnovers.{record_dues, unacked_to}
use Rattle.ken_store.proofs.Sizing.{group_more}
use Rattle.ken_store.proofs.base_size.due_size.Goals as goal

pub loop-to-preserved : goal.loop-to-preserved
loop-to-preserved c =
    let more = group_more due (unacked_to c.args.acked.now (c.args.base.now ++ flat_map record_dues c.args.records.now)) c.loop-to.to in
    record {
      size = ap (λ (n : ℕ). n + c.due_size_to-size.result) c.loop-to.invariant.size ∙ ap (λ (n : ℕ). length (flat_map due (flat_map (unacked_to c.args.acked.now (c.args.base.now ++ flat_map record_dues c.args.records.now)) (range_with_len 0 c.loop-to.to))) + n) c.due_size_to-size.ensures.size ∙ sym more;
      most = omega (arith, c.due_size_to-size.ensures.most, c.loop-to.invariant.most);
    }
