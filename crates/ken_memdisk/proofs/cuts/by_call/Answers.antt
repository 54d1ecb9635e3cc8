use Rattle.std.proofs.Common.{arith}
use Rattle.ken_memdisk.proofs.Inserted.{entries_before, first_before, few_before}
use Rattle.ken_memdisk.proofs.cuts.by_call.Goals as goal

pub loop-place-preserved : goal.loop-place-preserved
loop-place-preserved c =
    record {
      entries = entries_before c.args.cuts.now c.loop-place.place (omega arith) (omega arith) _ _ c.loop-place.invariant.entries c.in_ok-insert.ensures.entries;
      first = λ call. first_before c.args.cuts.now c.loop-place.place (omega arith) (omega arith) call _ _ (c.loop-place.invariant.first call) (c.in_ok-insert.ensures.updates.0 call);
      few = few_before c.args.cuts.now c.loop-place.place (omega arith) (omega arith) _ _ c.loop-place.invariant.few c.in_ok-insert.ensures.entries;
    }
