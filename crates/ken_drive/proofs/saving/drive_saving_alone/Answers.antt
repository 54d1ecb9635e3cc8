-- A run of a script whose disks are saved, from its start to its end, with no rounds.
use mir.Syntax.{of_param}
use Rattle.std.proofs.Common.{Err, refl, subst}
use Rattle.std.proofs.lemmas.Result.{err_from_is_err_and}
use Rattle.ken_drive.specs.Clauses.{files_of, views_of}
use Rattle.ken_drive.specs.Saving.{SavesRun}
use Rattle.ken_drive.proofs.Acts.{script-modest}
use Rattle.ken_drive.proofs.Answering.{few-nodes, may-drain, unstarted}
use Rattle.ken_drive.proofs.SavingRun.{not-saved, run-saved}
use Rattle.ken_drive.proofs.saving.drive_saving_alone.Goals as goal

pub told-answer-requires : goal.told-answer-requires
told-answer-requires g c = may-drain g.W.Dev.Disk g.W.Luck.Oracle g.W.Out.Outlet g.A.App g.W.World.scripted (g.A.App.handler c.args.app) c.args.script.now c.requires.rules c.in_ok-run.run' (g.W.World.kept c.start.new.world) c.in_ok-run.ensures.starts c.in_ok-run.ensures.accounts c.in_ok-run.ensures.refused

pub start-requires : goal.start-requires
start-requires g c = (record { owned = c.type_bounds.send-W-Dev.owned; leaving = λ k. c.type_bounds.send-W-Dev.leaving (λ _. k (of_param 2)) }, (record { owned = c.type_bounds.send-W-Luck.owned; leaving = λ k. c.type_bounds.send-W-Luck.leaving (λ _. k (of_param 3)) }, (record { owned = c.type_bounds.send-W-Out.owned; leaving = λ k. c.type_bounds.send-W-Out.leaving (λ _. k (of_param 4)) }, (c.requires.rules.limits, (script-modest c.args.script.now c.requires.rules, (c.requires.serves, c.requires.none))))))

pub end_saving-requires : goal.end_saving-requires
end_saving-requires g c = (record { owned = c.type_bounds.send-W-Dev.owned; leaving = λ k. c.type_bounds.send-W-Dev.leaving (λ _. k (of_param 2)) }, (record { owned = c.type_bounds.send-W-Luck.owned; leaving = λ k. c.type_bounds.send-W-Luck.leaving (λ _. k (of_param 3)) }, (record { owned = c.type_bounds.send-W-Out.owned; leaving = λ k. c.type_bounds.send-W-Out.leaving (λ _. k (of_param 4)) }, few-nodes g.W.Dev.Disk g.W.Luck.Oracle g.W.Out.Outlet g.A.App g.W.World.scripted (g.A.App.handler c.args.app) c.args.script.now c.requires.rules c.in_ok-run.run' (g.W.World.kept c.start.new.world) c.in_ok-run.ensures.starts c.in_ok-run.ensures.accounts c.in_ok-run.ensures.refused c.told-answer.result c.told-answer.new.run c.told-answer.ensures.tells)))

pub returns : goal.returns
returns g c =
    subst (λ old. SavesRun (views_of g.W.Dev.Disk g.W.Luck.Oracle g.W.Out.Outlet g.W.World.scripted) (files_of g.W.File.Disk g.W.Files.tells) c.args.prefix.now old (g.W.Files.filing c.end_saving.new.world) (g.W.World.kept c.end_saving.new.world) (g.A.App.handler c.args.app) c.args.script.now 0 c.end_saving.result) c.in_ok-run.ensures.files
    (run-saved g.W.Dev.Disk g.W.Luck.Oracle g.W.Out.Outlet g.A.App g.W.World.scripted (g.A.App.handler c.args.app) c.args.script.now c.requires.rules c.in_ok-run.run' (g.W.World.kept c.start.new.world) c.in_ok-run.ensures.starts c.in_ok-run.ensures.accounts c.in_ok-run.ensures.refused
    (files_of g.W.File.Disk g.W.Files.tells) c.args.prefix.now 0 c.told-answer.new.run (c.ended_runs_keep.ensures g.W.World.scripted) (g.W.Files.filing c.start.new.world) (g.W.Files.filing c.end_saving.new.world) (g.W.World.kept c.end_saving.new.world)
    c.told-answer.result c.told-answer.ensures.tells c.told-answer.ensures.images c.told-answer.ensures.states c.end_saving.result c.end_saving.ensures)

pub returns-in_err-run : goal.returns-in_err-run
returns-in_err-run g c =
    let p = err_from_is_err_and c.from_residual.result c.from_residual.ensures.1 in
    rw (p.1, p.2)
    (not-saved (views_of g.W.Dev.Disk g.W.Luck.Oracle g.W.Out.Outlet g.W.World.scripted) (files_of g.W.File.Disk g.W.Files.tells) c.args.prefix.now (g.W.Files.filing c.args.world.now) (g.W.Files.filing c.start.new.world) (g.W.World.kept c.start.new.world) (g.A.App.handler c.args.app) c.args.script.now 0 c.in_err-run.field-0.0 c.in_err-run.ensures.files
    (unstarted g.W.Dev.Disk g.W.Luck.Oracle g.W.Out.Outlet g.A.App g.W.World.scripted (g.A.App.handler c.args.app) c.args.script.now c.requires.rules 0 (g.W.World.kept c.start.new.world) (Err c.in_err-run.field-0.0) c.in_err-run.field-0.0 refl c.in_err-run.ensures.starts c.in_err-run.ensures.accounts))
