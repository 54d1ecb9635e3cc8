use Rattle.std.proofs.Common.{refl}
use Rattle.ken_store.proofs.Meanwhile.{settles_by, sync_recovers}
use Rattle.ken_store.proofs.store.Store.settle.Goals as goal

pub returns-clause-stands : goal.returns-clause-stands
returns-clause-stands g c = λ i stands.
    settles_by g.D.Disk.told g.D.Disk.size c.args.self.now (record { turns = c.args.self.now.turns; patches = c.settle.new.self }) i c.settle.result stands refl c.settle.ensures.count c.settle.ensures.known (c.settle.ensures.stands i stands.patches)

pub returns-clause-recovers : goal.returns-clause-recovers
returns-clause-recovers g c = λ i v stands reads.
    sync_recovers g.D.Disk.told g.D.Disk.size c.args.self.now (record { turns = c.args.self.now.turns; patches = c.settle.new.self }) i stands refl v reads (c.settle.ensures.any_moment i stands.patches)
