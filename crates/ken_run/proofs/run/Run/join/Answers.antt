-- A node that was created joins.
use Rattle.std.proofs.Common.{◌∙◌, ◌++◌, ◌∷◌, [], ◌+◌, refl, ap}
use Rattle.ken_run.proofs.StartingRun.{adds-by, joins-accounts, joins-by, joins-refused, memory-accounts, memory-adds, memory-joins, memory-not-ok}
use Rattle.ken_run.proofs.run.Run.join.Goals as goal

pub start-started-requires : goal.start-started-requires
start-started-requires g c = record { game = c.requires.game; node = c.requires.made; born = c.requires.joins.born }

pub returns : goal.returns
returns g c =
    let stations = c.push_reserved.ensures.items ∙ ap (λ xs. xs ++ c.start-started.new.self ∷ []) c.in_ok-reserve.ensures.items in
    let last = record c.args.self.now { nodes = c.args.self.now.nodes + 1; stations = c.push_reserved.new.self } in
    record {
      joins = λ game made joins. joins-by (λ w. g.D.Disk.told w.disk) (λ w. g.D.Disk.size w.disk) g.U.Outlet.took g.A.App.handler game made c.args.station c.start-started.new.self c.args.self.now last joins c.start-started.ensures.rest stations refl (refl, refl, refl) c.start-started.result
          (c.start-started.ensures.creates game made joins.born);
      adds = adds-by (λ w. g.D.Disk.told w.disk) (λ w. g.D.Disk.size w.disk) g.U.Outlet.took g.A.App.handler c.args.station c.start-started.new.self c.args.self.now last c.start-started.ensures.rest stations c.start-started.result;
      accounts = λ terms game made joins fresh origin accounted. joins-accounts (λ w. g.D.Disk.told w.disk) (λ w. g.D.Disk.faults w.disk) (λ w. g.D.Disk.fate w.disk) g.O.Oracle.telling terms game made c.start-started.new.self c.args.self.now last joins.started.stands.width stations refl accounted c.start-started.result
          (c.start-started.ensures.accounts terms game made joins.born fresh origin accounted.most);
      refused = λ terms game made joins may refused. joins-refused (λ w. g.D.Disk.told w.disk) (λ w. g.D.Disk.size w.disk) g.U.Outlet.took g.A.App.handler game made c.args.station c.start-started.new.self c.args.self.now last joins c.start-started.ensures.rest stations refl (refl, refl, refl)
          g.U.Outlet.faults g.U.Outlet.fate terms c.start-started.result may (c.start-started.ensures.refusals game made joins.born) refused;
      most = refl;
    }

pub returns-in_err-reserve-clause-joins : goal.returns-in_err-reserve-clause-joins
returns-in_err-reserve-clause-joins g c = λ game made joins. memory-joins (λ w. g.D.Disk.told w.disk) (λ w. g.D.Disk.size w.disk) g.U.Outlet.took g.A.App.handler c.from_residual.result c.from_residual.ensures.1 game made _

pub returns-in_err-reserve-clause-adds : goal.returns-in_err-reserve-clause-adds
returns-in_err-reserve-clause-adds g c = memory-adds (λ w. g.D.Disk.told w.disk) (λ w. g.D.Disk.size w.disk) g.U.Outlet.took g.A.App.handler c.from_residual.result c.from_residual.ensures.1 _ _ _

pub returns-in_err-reserve-clause-accounts : goal.returns-in_err-reserve-clause-accounts
returns-in_err-reserve-clause-accounts g c = λ terms game made joins fresh origin accounted.
    memory-accounts (λ w. g.D.Disk.told w.disk) (λ w. g.D.Disk.faults w.disk) (λ w. g.D.Disk.fate w.disk) g.O.Oracle.telling terms game c.from_residual.result c.from_residual.ensures.1 made _

pub returns-in_err-reserve-clause-refused : goal.returns-in_err-reserve-clause-refused
returns-in_err-reserve-clause-refused g c = λ terms game made joins may refused. memory-not-ok _ c.from_residual.result c.from_residual.ensures.1
