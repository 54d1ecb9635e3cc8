use Rattle.std.proofs.Common.{◌≡◌, refl}
use Rattle.ken_log.specs.declared.faults.SealFault.TheVariants as seals
use Rattle.ken_store.specs.Turning.{coming_record}
use Rattle.ken_store.proofs.Sealing.{seals_as}
use Rattle.ken_store.proofs.turning.TurnSide.seal.Goals as goal

pub returns-in-Err-Disk-clause-log : goal.returns-in-Err-Disk-clause-log
returns-in-Err-Disk-clause-log g c =
    seals_as _ _ g.D.Disk.told g.D.Disk.faults g.D.Disk.fate c.args.self.now.log.end (coming_record c.args.self.now c.args.effects.now) c.args.self.now.log.disk c.seal_begun.new.self.log.disk seals.Disk (rw c.in-Err-Disk.field-0-is at c.in-Err-Disk.ensures.log)

pub returns-in-Err-Memory-clause-log : goal.returns-in-Err-Memory-clause-log
returns-in-Err-Memory-clause-log g c =
    let on : c.abort.new.self.log.disk ≡ c.seal_begun.new.self.log.disk = rw c.abort.ensures.same.log refl in
    rw on (seals_as _ _ g.D.Disk.told g.D.Disk.faults g.D.Disk.fate c.args.self.now.log.end (coming_record c.args.self.now c.args.effects.now) c.args.self.now.log.disk c.seal_begun.new.self.log.disk seals.Memory (rw c.in-Err-Memory.field-0-is at c.in-Err-Memory.ensures.log))
