-- A node is created, or raised after a disk of it has failed.
use Rattle.std.proofs.Common.{[], refl, subst, Ok, Err, arith}
use Rattle.ken_ship.specs.declared.faults.NodeFault.TheVariants.{Disk}
use Rattle.ken_core.specs.Calls.{no_doubt}
use Rattle.ken_core.specs.Nodes.{first_node}
use Rattle.ken_node.specs.Created.{IsCreation}
use Rattle.ken_node.specs.Stages.{refusals_in}
use Rattle.ken_run.proofs.CountsAnew.{counts-none}
use Rattle.ken_run.proofs.StartingNode.{accounted-at-once, blank-are-told, held-at-once, unrefused-after, created-at-once, created-by-restarts, failed-creation, may-be-created}
use Rattle.ken_run.proofs.station.Station.create.Goals as goal

pub create-requires : goal.create-requires
create-requires g c = may-be-created (λ w. g.D.Disk.told w.disk) (λ w. g.D.Disk.size w.disk) c.args.self.now c.requires

pub returns-in-Ok-clause-creates : goal.returns-in-Ok-clause-creates
returns-in-Ok-clause-creates g c = λ game v born.
    created-at-once (λ w. g.D.Disk.told w.disk) (λ w. g.D.Disk.size w.disk) (λ w. g.D.Disk.faults w.disk) (λ w. g.D.Disk.fate w.disk) game v c.args.most c.args.self.now (record c.args.self.now { node = c.create.new.self }) born refl
    (c.in-Ok.ensures.creation game v born.over.disks born.over.uncreated)

pub returns-in-Ok-clause-accounts : goal.returns-in-Ok-clause-accounts
returns-in-Ok-clause-accounts g c = λ terms game v born fresh origin most.
    accounted-at-once (λ w. g.D.Disk.told w.disk) (λ w. g.D.Disk.size w.disk) (λ w. g.D.Disk.faults w.disk) (λ w. g.D.Disk.fate w.disk) game v c.args.most c.args.self.now (record c.args.self.now { node = c.create.new.self }) born refl g.O.Oracle.telling terms fresh origin
    (c.create.ensures.synced game v born.over.disks born.over.uncreated (blank-are-told (λ w. g.D.Disk.told w.disk) born.over.disks born.over.log born.over.image born.over.second))
    (c.in-Ok.ensures.creation game v born.over.disks born.over.uncreated)

pub returns-in-Ok-clause-refusals : goal.returns-in-Ok-clause-refusals
returns-in-Ok-clause-refusals g c = λ game v born.
    unrefused-after (λ w. g.D.Disk.told w.disk) (λ w. g.D.Disk.size w.disk) (λ w. g.D.Disk.faults w.disk) (λ w. g.D.Disk.fate w.disk) game v c.args.most c.args.self.now (record c.args.self.now { node = c.create.new.self }) born refl
    (Ok tt) (c.in-Ok.ensures.creation game v born.over.disks born.over.uncreated)

pub returns-in-Err-Disk-clause-accounts : goal.returns-in-Err-Disk-clause-accounts
returns-in-Err-Disk-clause-accounts g c = λ terms game v born fresh origin most.
    let creation = subst (λ x. IsCreation {T = Unit {0}} (λ w. g.D.Disk.told w.disk) (λ w. g.D.Disk.size w.disk) (λ w. g.D.Disk.faults w.disk) (λ w. g.D.Disk.fate w.disk) game v (Err x) born.over.disks c.create.new.self.stage) c.in-Err-Disk.field-0-is (c.in-Err-Disk.ensures.creation game v born.over.disks born.over.uncreated) in
    c.raise.ensures.accounts terms game v
    (held-at-once (λ w. g.D.Disk.told w.disk) (λ w. g.D.Disk.size w.disk) (λ w. g.D.Disk.faults w.disk) (λ w. g.D.Disk.fate w.disk) game v c.args.most c.args.self.now (record c.args.self.now { node = c.create.new.self }) born refl g.O.Oracle.telling terms fresh origin
    (c.create.ensures.synced game v born.over.disks born.over.uncreated (blank-are-told (λ w. g.D.Disk.told w.disk) born.over.disks born.over.log born.over.image born.over.second)) creation)
    (omega (arith, most))

pub returns-in-Err-Disk-clause-refusals : goal.returns-in-Err-Disk-clause-refusals
returns-in-Err-Disk-clause-refusals g c = λ game v born.
    let creation = subst (λ x. IsCreation {T = Unit {0}} (λ w. g.D.Disk.told w.disk) (λ w. g.D.Disk.size w.disk) (λ w. g.D.Disk.faults w.disk) (λ w. g.D.Disk.fate w.disk) game v (Err x) born.over.disks c.create.new.self.stage) c.in-Err-Disk.field-0-is (c.in-Err-Disk.ensures.creation game v born.over.disks born.over.uncreated) in
    let none =
    unrefused-after (λ w. g.D.Disk.told w.disk) (λ w. g.D.Disk.size w.disk) (λ w. g.D.Disk.faults w.disk) (λ w. g.D.Disk.fate w.disk) game v c.args.most c.args.self.now (record c.args.self.now { node = c.create.new.self }) born refl (Err Disk) creation in
    counts-none c.raise.result (refusals_in c.create.new.self.stage) (refusals_in c.raise.new.self.node.stage) none c.raise.ensures.refusals

pub returns-in-Err-clause-refusals : goal.returns-in-Err-clause-refusals
returns-in-Err-clause-refusals g c = λ game v born.
    unrefused-after (λ w. g.D.Disk.told w.disk) (λ w. g.D.Disk.size w.disk) (λ w. g.D.Disk.faults w.disk) (λ w. g.D.Disk.fate w.disk) game v c.args.most c.args.self.now (record c.args.self.now { node = c.create.new.self }) born refl
    (Err c.in-Err.fault) (c.in-Err.ensures.creation game v born.over.disks born.over.uncreated)

pub raise-requires : goal.raise-requires
raise-requires g c =
    let may = c.requires in
    record {
      game = may.game;
      node = may.node;
      given = [];
      stood_for = first_node may.game;
      doubt = no_doubt;
      down = failed-creation (λ w. g.D.Disk.told w.disk) (λ w. g.D.Disk.size w.disk) (λ w. g.D.Disk.faults w.disk) (λ w. g.D.Disk.fate w.disk) may.game may.node c.args.most c.args.self.now (record c.args.self.now { node = c.create.new.self }) may.born refl
          (subst (λ x. IsCreation {T = Unit {0}} (λ w. g.D.Disk.told w.disk) (λ w. g.D.Disk.size w.disk) (λ w. g.D.Disk.faults w.disk) (λ w. g.D.Disk.fate w.disk) may.game may.node (Err x) may.born.over.disks c.create.new.self.stage) c.in-Err-Disk.field-0-is (c.in-Err-Disk.ensures.creation may.game may.node may.born.over.disks may.born.over.uncreated));
    }

pub returns-in-Err-Disk-clause-creates : goal.returns-in-Err-Disk-clause-creates
returns-in-Err-Disk-clause-creates g c = λ game v born.
    let creation = subst (λ x. IsCreation {T = Unit {0}} (λ w. g.D.Disk.told w.disk) (λ w. g.D.Disk.size w.disk) (λ w. g.D.Disk.faults w.disk) (λ w. g.D.Disk.fate w.disk) game v (Err x) born.over.disks c.create.new.self.stage) c.in-Err-Disk.field-0-is (c.in-Err-Disk.ensures.creation game v born.over.disks born.over.uncreated) in
    created-by-restarts (λ w. g.D.Disk.told w.disk) (λ w. g.D.Disk.size w.disk) (λ w. g.D.Disk.faults w.disk) (λ w. g.D.Disk.fate w.disk) game v c.args.most c.args.self.now (record c.args.self.now { node = c.create.new.self }) born refl
    c.raise.new.self c.raise.result creation c.raise.ensures.emissions
    (c.raise.ensures.back game v [] (first_node game) no_doubt (failed-creation (λ w. g.D.Disk.told w.disk) (λ w. g.D.Disk.size w.disk) (λ w. g.D.Disk.faults w.disk) (λ w. g.D.Disk.fate w.disk) game v c.args.most c.args.self.now (record c.args.self.now { node = c.create.new.self }) born refl creation))
