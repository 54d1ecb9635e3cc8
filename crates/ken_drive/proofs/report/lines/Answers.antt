-- The lines of a run that has ended are its report.
use Rattle.std.proofs.Common.{◌∙◌, sym, subst, arith}
use Rattle.ken_model.specs.History.{Rises}
use Rattle.ken_drive.proofs.EndingLists.{first_of}
use Rattle.ken_drive.proofs.EndingRun.{ended_width, report_of}
use Rattle.ken_drive.proofs.report.lines.Goals as goal

pub returns : goal.returns
returns g c = λ game e plain.
    let some = first_of c.args.run.now.stations.items (omega (arith, ended_width (λ w. g.D.Disk.told w.disk) (λ w. g.D.Disk.size w.disk) g.U.Outlet.took g.A.App.handler game c.args.run.now e, e.running.stands.limits.some_node)) in
    report_of (λ w. g.D.Disk.told w.disk) (λ w. g.D.Disk.size w.disk) g.U.Outlet.took g.A.App.handler game c.args.run.now e
    (record { turns = c.new.result; emissions = c.new-2.result; restarts = c.new-3.result; heaps = c.new-4.result; ending = c.ending_of.result; waiting = c.waiting-waiting.result })
    c.in_ok-summary.summary some c.in_ok-summary.ensures (c.new.ensures ∙ c.into_lines-turns.ensures.lines) (subst (Rises 0 0) (sym c.new.ensures) c.into_lines-turns.ensures.rises) c.new-2.ensures c.new-3.ensures c.new-4.ensures
    (c.waiting-waiting.ensures game e) c.ending_of.ensures plain
