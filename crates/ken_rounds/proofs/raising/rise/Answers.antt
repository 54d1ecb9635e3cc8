-- One look at a node's fault.
use Rattle.std.proofs.Common.{◌≡◌, Err, Some, refl, subst}
use Rattle.ken_ship.specs.declared.faults.NodeFault.{NodeFault}
use Rattle.ken_ship.specs.declared.faults.NodeFault.TheVariants.{Disk}
use Rattle.ken_rounds.specs.Raising.{used_up, WasRaised}
use Rattle.ken_rounds.proofs.raising.rise.Goals as goal

pub returns-in-Err-Disk : goal.returns-in-Err-Disk
returns-in-Err-Disk g c =
    let r = c.in-Err-Disk.ensures in
    let disk : c.in-Some-Disk.field-0 ≡ Disk = rw c.in-Some-Disk.is at c.in-Some-Disk.field-0-is in
    let raised : WasRaised g.D.Disk g.O.Oracle c.args.most (Err c.in-Err-Disk.field-0) c.args.station.now c.raise.new.self =
    record { back = r.back; accounts = r.accounts; counts = r.counts; emissions = r.emissions; refusals = r.refusals; rest = r.rest } in (
      refl,
      used_up (subst (λ (x : NodeFault). c.args.fault ≡ Some x) disk c.in-Some-Disk.is)
          (subst (λ x. WasRaised g.D.Disk g.O.Oracle c.args.most (Err x) c.args.station.now c.raise.new.self) c.in-Err-Disk.field-0-is raised),
    )

pub returns-in-Err-Damaged : goal.returns-in-Err-Damaged
returns-in-Err-Damaged g c =
    let r = c.in-Err-Damaged.ensures in
    let disk : c.in-Some-Disk.field-0 ≡ Disk = rw c.in-Some-Disk.is at c.in-Some-Disk.field-0-is in
    let raised : WasRaised g.D.Disk g.O.Oracle c.args.most (Err c.in-Err-Damaged.field-0) c.args.station.now c.raise.new.self =
    record { back = r.back; accounts = r.accounts; counts = r.counts; emissions = r.emissions; refusals = r.refusals; rest = r.rest } in (
      subst (λ (x : NodeFault). c.args.fault ≡ Some x) disk c.in-Some-Disk.is,
      subst (λ x. WasRaised g.D.Disk g.O.Oracle c.args.most (Err x) c.args.station.now c.raise.new.self) c.in-Err-Damaged.field-0-is raised,
    )
