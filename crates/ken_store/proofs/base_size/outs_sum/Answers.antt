use Rattle.std.proofs.Common.{ℕ, ◌+◌, length, take, ltb, ap, sym, ◌∙◌, arith}
use Rattle.std.specs.List.{flat_map}
use Rattle.ken_model.specs.declared.messages.Out.{Out}
use Rattle.ken_record.specs.Spelling.{out}
use Rattle.ken_record.proofs.Sizes.{out_long}
use Rattle.ken_store.specs.Turnovers.{outs_above}
use Rattle.ken_store.proofs.Sizing.{kept_more}
use Rattle.ken_store.proofs.base_size.outs_sum.Goals as goal

pub loop-out-preserved : goal.loop-out-preserved
loop-out-preserved c =
    let more = kept_more out (λ (o : Out). ltb c.args.emitted o.number) c.args.outs.now c.loop-out.out-index c.out-item.result (10 + c.len.result) c.loop-out-test.true c.out-item.is (out_long c.out-item.result ∙ ap (λ (n : ℕ). 10 + n) (sym c.len.ensures)) in
    record {
      size = ap (λ (n : ℕ). n + c.out_len-size.result) c.loop-out.invariant.size ∙ ap (λ (n : ℕ). length (flat_map out (outs_above c.args.emitted (take c.loop-out.out-index c.args.outs.now))) + n) c.out_len-size.ensures.size ∙ sym more;
      most = omega (arith, c.out_len-size.ensures.most, c.loop-out.invariant.most);
    }
