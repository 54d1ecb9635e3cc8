-- A creation, as a run answers.
use Rattle.std.proofs.Common.{subst, Err}
use Rattle.ken_run.specs.Accounts.{AccountsStation}
use Rattle.ken_run.specs.Creating.{CreatesStation}
use Rattle.ken_run.proofs.StartingNode.{created-held}
use Rattle.ken_run.proofs.station.Station.start.Goals as goal

pub returns-in-Err-Disk-clause-accounts : goal.returns-in-Err-Disk-clause-accounts
returns-in-Err-Disk-clause-accounts g c = λ terms game v born fresh origin most.
    created-held (λ w. g.D.Disk.told w.disk) (λ w. g.D.Disk.size w.disk) (λ w. g.D.Disk.faults w.disk) (λ w. g.D.Disk.fate w.disk) g.O.Oracle.telling terms game v c.args.most c.create.new.self most
    (subst (λ x. CreatesStation (λ w. g.D.Disk.told w.disk) (λ w. g.D.Disk.size w.disk) (Err x) game v c.args.most c.create.new.self) c.in-Err-Disk.field-0-is (c.in-Err-Disk.ensures.creates game v born))
    (subst (λ x. AccountsStation (λ w. g.D.Disk.told w.disk) (λ w. g.D.Disk.faults w.disk) (λ w. g.D.Disk.fate w.disk) g.O.Oracle.telling terms game (Err x) v c.create.new.self) c.in-Err-Disk.field-0-is (c.in-Err-Disk.ensures.accounts terms game v born fresh origin most))

pub returns-in-Ok-clause-creates : goal.returns-in-Ok-clause-creates
returns-in-Ok-clause-creates g c = λ game v born. c.in-Ok.ensures.creates game v born

pub returns-in-Ok-clause-accounts : goal.returns-in-Ok-clause-accounts
returns-in-Ok-clause-accounts g c = λ terms game v born fresh origin most. c.in-Ok.ensures.accounts terms game v born fresh origin most

pub returns-in-Err-Damaged-clause-creates : goal.returns-in-Err-Damaged-clause-creates
returns-in-Err-Damaged-clause-creates g c = λ game v born.
    subst (λ x. CreatesStation (λ w. g.D.Disk.told w.disk) (λ w. g.D.Disk.size w.disk) (Err x) game v c.args.most c.create.new.self) c.in-Err-Damaged.field-0-is (c.in-Err-Damaged.ensures.creates game v born)
