use Rattle.std.proofs.Common.{◌∙◌, sym, subst}
use Rattle.ken_store.specs.declared.heads.Front.{Front}
use Rattle.ken_store.specs.Logs.{AreHeads, front_of}
use Rattle.ken_store.proofs.Mounted.{front_whole}
use Rattle.ken_store.proofs.recovery.recover_log.Goals as goal

pub recover_store-requires-clause-heads : goal.recover_store-requires-clause-heads
recover_store-requires-clause-heads g c = λ h th s ts.
    let current = sym c.in-Ok.ensures.story ∙ th in
    subst (λ (f : Front). AreHeads c.args.heads f (front_of s.now.seen)) (front_whole h.now.seen c.in-Ok.log.header c.in-Ok.log.base c.in-Ok.records.items (c.in-Ok.ensures.mounts h current)) (c.requires.heads h current s ts)
