use Rattle.ken_store.specs.Kept.{messages_to}
use Rattle.ken_store.proofs.Lists.{flat_map-range_more}
use Rattle.ken_store.proofs.waiting.messages_in.Goals as goal

pub loop-to-preserved : goal.loop-to-preserved
loop-to-preserved g c =
    rw (flat_map-range_more (messages_to c.args.node c.args.log.now.base c.args.records.now) c.loop-to.to, ← c.loop-to.invariant, ← c.base_messages.ensures) c.in_ok-put_messages_to.ensures
