use Rattle.ken_node.proofs.RestartSynced.{created-synced, over-disks, stage-synced, uncreated-synced}
use Rattle.ken_node.specs.Down.{AreTold}
use Rattle.ken_store.specs.Answers.{AreAtRest, AreUnformatted, disks_in}
use Rattle.std.proofs.Common.{◌≡◌, ℕ, Ok, Err, Result, refl, sym, subst}
use Rattle.ken_store.specs.declared.disks.Disks.{Disks}
use Rattle.ken_store.specs.declared.faults.StoreFault.{StoreFault}
use Rattle.ken_order.specs.Consumed.{Consumed}
use Rattle.ken_ship.specs.declared.faults.NodeFault.{NodeFault}
use Rattle.ken_work.specs.declared.parts.Parts.{Parts}
use Rattle.ken_node.specs.declared.stage.Stage.TheVariants.{Created, Uncreated}
use Rattle.ken_work.specs.Parts.{AreOver}
use Rattle.ken_node.specs.Created.{IsCreation, first_order}
use Rattle.ken_work.specs.Faults.{node_answer}
use Rattle.ken_work.specs.First.{AreFirst}
use Rattle.ken_work.specs.News.{AreInputs}
use Rattle.ken_node.proofs.Creation.{created_ok, created_err}
use Rattle.ken_whole.proofs.InputsOf.{inputs_are}
use Rattle.ken_node.proofs.stage.Stage.created.Goals as goal

pub create-requires-clause-none : goal.create-requires-clause-none
create-requires-clause-none g c =
    let same : c.requires.disks ≡ c.in-Uncreated.disks = cc in
    subst (λ (d : Disks g.row.D.Denot). AreUnformatted g.D.Disk.told d) same c.requires.none

pub over-turns-requires-clause-given : goal.over-turns-requires-clause-given
over-turns-requires-clause-given g c =
    let u = c.requires.uncreated in
    let x : Parts = c.in-Uncreated.parts in
    let same : u.parts ≡ x = cc in
    let is : AreFirst c.requires.game c.requires.node x = subst (AreFirst c.requires.game c.requires.node) same u.first in
    subst (λ (v : ℕ). AreInputs v x.inputs.items) (sym is.node) (subst (AreInputs c.requires.node) (sym is.inputs) (inputs_are c.requires.game c.requires.node u.limits))

pub returns-in-Ok-clause-creation : goal.returns-in-Ok-clause-creation
returns-in-Ok-clause-creation g c = λ game v disks u.
    let x : Parts = c.in-Uncreated.parts in
    let stage = Created c.over-turns.result.0 c.over-turns.result.1 c.over-turns.result.2 in
    let parts : u.parts ≡ x = cc in
    let same : c.in-Uncreated.disks ≡ disks = cc in
    let e = c.in-Ok.ensures in
    let over : AreOver x c.in-Ok.store (first_order x.nodes) c.over-turns.result.0 c.over-turns.result.1 c.over-turns.result.2 =
    subst (λ (o : Consumed). AreOver x c.in-Ok.store o c.over-turns.result.0 c.over-turns.result.1 c.over-turns.result.2) c.new-order.ensures c.over-turns.ensures in
    subst (λ (d : Disks g.row.D.Denot). IsCreation {T = Unit {0}} g.D.Disk.told g.D.Disk.size g.D.Disk.faults g.D.Disk.fate game v (Ok tt) d stage) same
    (created_ok g.D.Disk.told g.D.Disk.size g.D.Disk.faults g.D.Disk.fate game v x c.in-Uncreated.disks c.in-Ok.store c.over-turns.result.0 c.over-turns.result.1 c.over-turns.result.2
    u.limits (subst (AreFirst game v) parts u.first) over e.ready e.takes e.idle e.value e.new e.creates (record { format = e.calls; log = e.log; image = e.image }) e.tells e.second e.faults)

pub returns-in-Err-clause-creation : goal.returns-in-Err-clause-creation
returns-in-Err-clause-creation g c = λ game v disks u.
    let x : Parts = c.in-Uncreated.parts in
    let parts : u.parts ≡ x = cc in
    let same : c.in-Uncreated.disks ≡ disks = cc in
    let e = c.in-Err.ensures in
    let answer : Result (Unit {0}) StoreFault = Err c.in-Err.fault in
    subst (λ (r : Result (Unit {0}) NodeFault). IsCreation g.D.Disk.told g.D.Disk.size g.D.Disk.faults g.D.Disk.fate game v r disks (Uncreated c.in-Err.disks x)) (sym c.answered.ensures)
    (subst (λ (d : Disks g.row.D.Denot). IsCreation g.D.Disk.told g.D.Disk.size g.D.Disk.faults g.D.Disk.fate game v (node_answer answer) d (Uncreated c.in-Err.disks x)) same
    (created_err g.D.Disk.told g.D.Disk.size g.D.Disk.faults g.D.Disk.fate game v x c.in-Uncreated.disks c.in-Err.disks c.in-Err.fault u.limits u.known (subst (AreFirst game v) parts u.first) e.creates (record { format = e.calls; log = e.log; image = e.image }) e.tells e.second e.faults))

pub returns-in-Ok-clause-synced : goal.returns-in-Ok-clause-synced
returns-in-Ok-clause-synced g c = λ game v disks u tell.
    let x : Parts = c.in-Uncreated.parts in
    let old : Disks g.row.D.Denot = c.in-Uncreated.disks in
    let parts : u.parts ≡ x = cc in
    let same : old ≡ disks = cc in
    let mine : c.requires.disks ≡ old = cc in
    let e = c.in-Ok.ensures in
    let over : AreOver x c.in-Ok.store (first_order x.nodes) c.over-turns.result.0 c.over-turns.result.1 c.over-turns.result.2 =
    subst (λ (o : Consumed). AreOver x c.in-Ok.store o c.over-turns.result.0 c.over-turns.result.1 c.over-turns.result.2) c.new-order.ensures c.over-turns.ensures in
    stage-synced g.D.Disk.told g.D.Disk.faults game v (disks_in c.in-Ok.store) (Created c.over-turns.result.0 c.over-turns.result.1 c.over-turns.result.2)
    (sym (over-disks x c.in-Ok.store (first_order x.nodes) c.over-turns.result.0 c.over-turns.result.1 c.over-turns.result.2 over))
    (created-synced g.D.Disk.told g.D.Disk.faults game v x (subst (AreFirst game v) parts u.first) old (disks_in c.in-Ok.store)
    (subst (AreAtRest g.D.Disk.told) mine c.requires.rests) (subst (AreUnformatted g.D.Disk.told) mine c.requires.none) (subst (AreTold g.D.Disk.told) (sym same) tell)
    c.in-Ok.store e.creates e.tells.1 e.second e.log)

pub returns-in-Err-clause-synced : goal.returns-in-Err-clause-synced
returns-in-Err-clause-synced g c = λ game v disks u tell.
    let x : Parts = c.in-Uncreated.parts in
    let old : Disks g.row.D.Denot = c.in-Uncreated.disks in
    let parts : u.parts ≡ x = cc in
    let same : old ≡ disks = cc in
    let mine : c.requires.disks ≡ old = cc in
    let e = c.in-Err.ensures in
    stage-synced g.D.Disk.told g.D.Disk.faults game v c.in-Err.disks (Uncreated c.in-Err.disks x) refl
    (uncreated-synced g.D.Disk.told g.D.Disk.faults game v x (subst (AreFirst game v) parts u.first) old c.in-Err.disks
    (subst (AreAtRest g.D.Disk.told) mine c.requires.rests) (subst (AreUnformatted g.D.Disk.told) mine c.requires.none) (subst (AreTold g.D.Disk.told) (sym same) tell)
    g.D.Disk.fate c.in-Err.fault e.creates e.tells.1 e.second e.log e.faults)
