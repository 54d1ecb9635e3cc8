use Rattle.std.proofs.Common.{◌++◌}
use Rattle.std.specs.List.{flat_map}
use Rattle.ken_store.specs.Turnovers.{record_dues, unacked_to}
use Rattle.ken_store.proofs.Lists.{flat_map-range_more}
use Rattle.ken_store.proofs.base_of.all_due.Goals as goal

pub loop-to-preserved : goal.loop-to-preserved
loop-to-preserved c =
    rw (flat_map-range_more (unacked_to c.args.acked.now (c.args.base.now ++ flat_map record_dues c.args.records.now)) c.loop-to.to, ← c.loop-to.invariant) c.in_ok-put_due_to.ensures
