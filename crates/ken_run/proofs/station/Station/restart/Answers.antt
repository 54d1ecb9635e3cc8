-- A station's restart is its node's.
use Rattle.std.proofs.Common.{◌≡◌, ℕ, Ok, Err, refl, rules}
use Rattle.ken_ship.specs.declared.faults.NodeFault.TheVariants.{Memory}
use Rattle.ken_node.specs.Restarts.{pick_of}
use Rattle.ken_node.specs.Stages.{disk_owner, refusals_in}
use Rattle.ken_run.proofs.AccountsRestarts.{restart-disks-err, restart-station}
use Rattle.ken_run.proofs.Counts.{counts-same, restart-kept}
use Rattle.ken_run.proofs.CountsAnew.{counts-failed}
use Rattle.ken_run.proofs.Leaving.{restart-failed}
use Rattle.ken_run.proofs.station.Station.restart.Goals as goal

pub returns-in_err-turns-clause-back : goal.returns-in_err-turns-clause-back
returns-in_err-turns-clause-back g c = λ game v given n doubt down.
    restart-failed (λ w. g.D.Disk.told w.disk) (λ w. g.D.Disk.size w.disk) game v given n doubt _ _ c.from_residual-in_err-turns.result c.in_err-turns.field-0.0 c.from_residual-in_err-turns.ensures.1 c.in_err-turns.ensures.sound (c.in_err-turns.ensures.down game v given n doubt down) (search rules) (search rules)

pub returns-clause-back : goal.returns-clause-back
returns-clause-back g c = λ game v given n doubt down. (c.in_ok-turns.turns, (c.in_ok-turns.ensures.up game v given n doubt down, search rules, search rules))

pub returns-in_err-turns-clause-accounts : goal.returns-in_err-turns-clause-accounts
returns-in_err-turns-clause-accounts g c = λ terms game v h less.
    restart-station (λ w. g.D.Disk.told w.disk) (λ w. g.D.Disk.size w.disk) (λ w. g.D.Disk.faults w.disk) (λ w. g.D.Disk.fate w.disk) g.O.Oracle.telling terms game v c.args.self.now _ h less refl (c.in_err-turns.ensures.synced game v h.given h.stood_for h.doubt h.down h.books.synced) c.in_err-turns.ensures.emissions (pick_of (λ w. g.D.Disk.hinted w.disk)) c.from_residual-in_err-turns.result
    (restart-failed (λ w. g.D.Disk.told w.disk) (λ w. g.D.Disk.size w.disk) game v h.given h.stood_for h.doubt _ _ c.from_residual-in_err-turns.result c.in_err-turns.field-0.0 c.from_residual-in_err-turns.ensures.1 c.in_err-turns.ensures.sound (c.in_err-turns.ensures.down game v h.given h.stood_for h.doubt h.down) (search rules) (search rules))
    (λ old new had has. restart-disks-err (λ w. g.D.Disk.told w.disk) (λ w. g.D.Disk.faults w.disk) (λ w. g.D.Disk.fate w.disk) (disk_owner c.args.self.now.node.stage) (pick_of (λ w. g.D.Disk.hinted w.disk) old) c.from_residual-in_err-turns.result c.in_err-turns.field-0.0 old new c.from_residual-in_err-turns.ensures.1 (c.in_err-turns.ensures.disks old new had has))

pub returns-clause-accounts : goal.returns-clause-accounts
returns-clause-accounts g c = λ terms game v h less.
    restart-station (λ w. g.D.Disk.told w.disk) (λ w. g.D.Disk.size w.disk) (λ w. g.D.Disk.faults w.disk) (λ w. g.D.Disk.fate w.disk) g.O.Oracle.telling terms game v c.args.self.now _ h less refl (c.in_ok-turns.ensures.synced game v h.given h.stood_for h.doubt h.down h.books.synced) c.in_ok-turns.ensures.emissions (pick_of (λ w. g.D.Disk.hinted w.disk)) (Ok tt)
    (c.in_ok-turns.turns, (c.in_ok-turns.ensures.up game v h.given h.stood_for h.doubt h.down, search rules, search rules)) c.in_ok-turns.ensures.disks

pub returns-in_err-reserve-clause-counts : goal.returns-in_err-reserve-clause-counts
returns-in_err-reserve-clause-counts g c = counts-same (λ w. g.D.Disk.faults w.disk) c.args.self.now.node.stage

pub returns-in_err-turns-clause-counts : goal.returns-in_err-turns-clause-counts
returns-in_err-turns-clause-counts g c = λ before after had has.
    restart-kept (λ w. g.D.Disk.told w.disk) (λ w. g.D.Disk.faults w.disk) (λ w. g.D.Disk.fate w.disk) {T = ℕ} (disk_owner c.args.self.now.node.stage) (pick_of (λ w. g.D.Disk.hinted w.disk) before) (Err c.in_err-turns.field-0.0) before after (c.in_err-turns.ensures.disks before after had has)

pub returns-clause-counts : goal.returns-clause-counts
returns-clause-counts g c = λ before after had has.
    restart-kept (λ w. g.D.Disk.told w.disk) (λ w. g.D.Disk.faults w.disk) (λ w. g.D.Disk.fate w.disk) (disk_owner c.args.self.now.node.stage) (pick_of (λ w. g.D.Disk.hinted w.disk) before) (Ok c.in_ok-turns.turns) before after (c.in_ok-turns.ensures.disks before after had has)

pub returns-in_err-reserve-clause-refusals : goal.returns-in_err-reserve-clause-refusals
returns-in_err-reserve-clause-refusals g c = counts-failed c.from_residual.result (λ e. e ≡ Memory) (refusals_in c.args.self.now.node.stage) (refusals_in c.args.self.now.node.stage) c.from_residual.ensures.1 refl

pub returns-in_err-turns-clause-refusals : goal.returns-in_err-turns-clause-refusals
returns-in_err-turns-clause-refusals g c =
    counts-failed c.from_residual-in_err-turns.result (λ e. e ≡ c.in_err-turns.field-0.0) _ _ c.from_residual-in_err-turns.ensures.1 c.in_err-turns.ensures.refusals

pub returns-clause-refusals : goal.returns-clause-refusals
returns-clause-refusals g c = c.in_ok-turns.ensures.refusals
