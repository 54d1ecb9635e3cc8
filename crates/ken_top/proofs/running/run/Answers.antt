use Rattle.std.proofs.Common.{Err, ap, sym, ◌∙◌}
use Rattle.std.proofs.lemmas.Result.{err_from_is_err_and}
use Rattle.ken_drive.specs.Clauses.{views_of}
use Rattle.ken_top.specs.Does.{all_rounds}
use Rattle.ken_top.specs.Programs.{by_seed}
use Rattle.ken_top.proofs.Played.{not-played, played, unsaid}
use Rattle.ken_top.proofs.Reported.{handler_by}
use Rattle.ken_top.proofs.running.run.Goals as goal

pub returns-in_err-script-clause-plays : goal.returns-in_err-script-clause-plays
returns-in_err-script-clause-plays g c =
    let p = err_from_is_err_and c.from_residual.result c.from_residual.ensures.1 in
    let failed = c.in_err-script.ensures in
    rw (p.1, p.2) (unsaid g.S.Source (by_seed c.args.seed (g.C.Cast.program c.args.cast)) all_rounds (views_of g.W.Dev.Disk g.W.Luck.Oracle g.W.Out.Outlet g.W.World.scripted) (g.W.World.kept c.args.world.now) c.args.source.now c.said.new.source c.in_err-script.field-0.0 failed.unsaid c.requires (λ is. failed.read (ap Err is)) (λ other. failed.no_failed_read (λ is. other (cc))) failed.taken failed.faults)

pub returns-in_err-lines-clause-plays : goal.returns-in_err-lines-clause-plays
returns-in_err-lines-clause-plays g c =
    let p = err_from_is_err_and c.from_residual-in_err-lines.result c.from_residual-in_err-lines.ensures.1 in
    let said = c.in_ok-script.ensures in
    rw (p.1, p.2) (not-played g.S.Source (by_seed c.args.seed (g.C.Cast.program c.args.cast)) all_rounds (views_of g.W.Dev.Disk g.W.Luck.Oracle g.W.Out.Outlet g.W.World.scripted) (g.W.World.kept c.drive.new.world) c.args.source.now c.said.new.source (g.C.App.App.handler c.app.result) c.in_ok-script.script c.in_err-lines.field-0.0 (handler_by c.args.seed (g.C.Cast.program c.args.cast) c.in_ok-script.script ∙ sym c.app.ensures.handler) said.said c.in_err-lines.ensures.drives (said.no_failed_read (λ is. absurd (cc))) said.taken)

pub returns-clause-plays : goal.returns-clause-plays
returns-clause-plays g c =
    let said = c.in_ok-script.ensures in
    played g.S.Source (by_seed c.args.seed (g.C.Cast.program c.args.cast)) all_rounds (views_of g.W.Dev.Disk g.W.Luck.Oracle g.W.Out.Outlet g.W.World.scripted) (g.W.World.kept c.drive.new.world) c.args.source.now c.said.new.source (g.C.App.App.handler c.app.result) c.in_ok-script.script c.in_ok-lines.lines (handler_by c.args.seed (g.C.Cast.program c.args.cast) c.in_ok-script.script ∙ sym c.app.ensures.handler) said.said c.in_ok-lines.ensures.drives (said.no_failed_read (λ is. absurd (cc))) said.taken
