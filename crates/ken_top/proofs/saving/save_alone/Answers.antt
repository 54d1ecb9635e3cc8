use Rattle.std.proofs.Common.{Err, ap, sym}
use Rattle.std.proofs.lemmas.Result.{err_from_is_err_and}
use Rattle.ken_drive.specs.Clauses.{files_of, views_of}
use Rattle.ken_top.specs.Does.{no_rounds}
use Rattle.ken_top.proofs.Saved.{not-saved, saved, unsaid-saving}
use Rattle.ken_top.proofs.saving.save_alone.Goals as goal

pub returns-in_err-script : goal.returns-in_err-script
returns-in_err-script g c =
    let p = err_from_is_err_and c.from_residual.result c.from_residual.ensures.1 in
    let failed = c.in_err-script.ensures in
    rw (p.1, p.2) (unsaid-saving g.S.Source (g.C.Cast.program c.args.cast) no_rounds (views_of g.W.Dev.Disk g.W.Luck.Oracle g.W.Out.Outlet g.W.World.scripted) (files_of g.W.File.Disk g.W.Files.tells) c.args.prefix.now (g.W.Files.filing c.args.world.now) (g.W.World.kept c.args.world.now) c.args.source.now c.said.new.source c.in_err-script.field-0.0 failed.unsaid c.requires (λ is. failed.read (ap Err is)) (λ other. failed.no_failed_read (λ is. other (cc))) failed.taken failed.faults)

pub returns-in_err-lines : goal.returns-in_err-lines
returns-in_err-lines g c =
    let p = err_from_is_err_and c.from_residual-in_err-lines.result c.from_residual-in_err-lines.ensures.1 in
    let said = c.in_ok-script.ensures in
    rw (p.1, p.2) (not-saved (g.C.Cast.program c.args.cast) no_rounds (views_of g.W.Dev.Disk g.W.Luck.Oracle g.W.Out.Outlet g.W.World.scripted) (files_of g.W.File.Disk g.W.Files.tells) c.args.prefix.now (g.W.Files.filing c.args.world.now) (g.W.Files.filing c.drive_saving_alone.new.world) (g.W.World.kept c.drive_saving_alone.new.world) g.S.Source c.args.source.now c.said.new.source (g.C.App.App.handler c.app.result) c.in_ok-script.script c.in_err-lines.field-0.0 (sym c.app.ensures.handler) said.said c.in_err-lines.ensures (said.no_failed_read (λ is. absurd (cc))) said.taken)

pub returns : goal.returns
returns g c =
    let said = c.in_ok-script.ensures in
    saved (g.C.Cast.program c.args.cast) no_rounds (views_of g.W.Dev.Disk g.W.Luck.Oracle g.W.Out.Outlet g.W.World.scripted) (files_of g.W.File.Disk g.W.Files.tells) c.args.prefix.now (g.W.Files.filing c.args.world.now) (g.W.Files.filing c.drive_saving_alone.new.world) (g.W.World.kept c.drive_saving_alone.new.world) g.S.Source c.args.source.now c.said.new.source (g.C.App.App.handler c.app.result) c.in_ok-script.script c.in_ok-lines.lines (sym c.app.ensures.handler) said.said c.in_ok-lines.ensures (said.no_failed_read (λ is. absurd (cc))) said.taken
