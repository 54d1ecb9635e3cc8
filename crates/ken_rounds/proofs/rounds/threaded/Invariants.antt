use Rattle.std.proofs.Common.{◌*◌, ◌≤◌, length, Ok}
use Rattle.ken_run.specs.Patched.{AllAdd}
use Rattle.ken_rounds.specs.Clauses.{AccountsRounds, KeepsRest, LeavesRounds, QuotaRounds, RefusesRounds}
use Rattle.ken_rounds.specs.Growth.{HaveGrown}
use Rattle.ken_rounds.specs.Heeded.{AreHeededBelow}
use Rattle.ken_rounds.proofs.rounds.threaded.Given as goal

abbrev pub invariant-loop-round : goal.invariant-loop-round
invariant-loop-round g l = record {
  leaves : LeavesRounds g.D.Disk g.U.Outlet g.A.App {T = Unit {0}} l.fn.run (Ok tt) l.run;
  accounts : AccountsRounds g.D.Disk g.O.Oracle g.U.Outlet g.A.App {T = Unit {0}} l.fn.run (Ok tt) l.run;
  refused : RefusesRounds g.D.Disk g.U.Outlet g.A.App {T = Unit {0}} l.fn.run (Ok tt) l.run;
  quota : QuotaRounds g.D.Disk g.U.Outlet g.A.App {T = Unit {0}} l._round l.fn.run (Ok tt) l.run;
  growth : HaveGrown l._round l.fn.run l.run;
  states : AllAdd (λ w. g.D.Disk.told w.disk) (16 * l._round) l.fn.run l.run;
  heeds : AreHeededBelow g.U.Outlet (length l.fn.run.stations.items) l.fn.run l.run;
  within : l._round ≤ l.rounds;
  rest : KeepsRest l.fn.run l.run;
}
