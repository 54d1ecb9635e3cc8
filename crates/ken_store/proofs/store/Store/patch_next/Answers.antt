use Rattle.std.proofs.Common.{refl}
use Rattle.ken_store.proofs.Meanwhile.{patches_by, patch_recovers}
use Rattle.ken_store.proofs.store.Store.patch_next.Goals as goal

pub returns-clause-stands : goal.returns-clause-stands
returns-clause-stands g c = λ i stands.
    patches_by g.D.Disk.told g.D.Disk.size c.args.self.now (record { turns = c.args.self.now.turns; patches = c.patch_next.new.self }) i c.patch_next.result stands refl c.patch_next.ensures.count c.patch_next.ensures.known (c.patch_next.ensures.stands i stands.patches)

pub returns-clause-recovers : goal.returns-clause-recovers
returns-clause-recovers g c = λ i v stands reads.
    patch_recovers g.D.Disk.told g.D.Disk.size c.args.self.now (record { turns = c.args.self.now.turns; patches = c.patch_next.new.self }) i stands refl v reads (c.patch_next.ensures.any_moment i stands.patches)
