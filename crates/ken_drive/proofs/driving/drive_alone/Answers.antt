-- A run of a script, from its start to its end, with no rounds.
use mir.Syntax.{of_param}
use Rattle.ken_drive.proofs.Acts.{script-modest}
use Rattle.ken_drive.proofs.Answering.{driven, few-nodes, may-drain, unstarted}
use Rattle.ken_drive.proofs.driving.drive_alone.Goals as goal

pub start-requires : goal.start-requires
start-requires g c = (record { owned = c.type_bounds.send-W-Dev.owned; leaving = λ k. c.type_bounds.send-W-Dev.leaving (λ _. k (of_param 2)) }, (record { owned = c.type_bounds.send-W-Luck.owned; leaving = λ k. c.type_bounds.send-W-Luck.leaving (λ _. k (of_param 3)) }, (record { owned = c.type_bounds.send-W-Out.owned; leaving = λ k. c.type_bounds.send-W-Out.leaving (λ _. k (of_param 4)) }, (c.requires.rules.limits, (script-modest c.args.script.now c.requires.rules, (c.requires.serves, c.requires.none))))))

pub told-answer-requires : goal.told-answer-requires
told-answer-requires g c = may-drain g.W.Dev.Disk g.W.Luck.Oracle g.W.Out.Outlet g.A.App g.W.World.scripted (g.A.App.handler c.args.app) c.args.script.now c.requires.rules c.in_ok-run.run' (g.W.World.kept c.start.new.world) (c.in_ok-run.ensures.starts) c.in_ok-run.ensures.accounts c.in_ok-run.ensures.refused

pub give_back-requires : goal.give_back-requires
give_back-requires g c = (record { owned = c.type_bounds.send-W-Dev.owned; leaving = λ k. c.type_bounds.send-W-Dev.leaving (λ _. k (of_param 2)) }, (record { owned = c.type_bounds.send-W-Luck.owned; leaving = λ k. c.type_bounds.send-W-Luck.leaving (λ _. k (of_param 3)) }, (record { owned = c.type_bounds.send-W-Out.owned; leaving = λ k. c.type_bounds.send-W-Out.leaving (λ _. k (of_param 4)) }, few-nodes g.W.Dev.Disk g.W.Luck.Oracle g.W.Out.Outlet g.A.App g.W.World.scripted (g.A.App.handler c.args.app) c.args.script.now c.requires.rules c.in_ok-run.run' (g.W.World.kept c.start.new.world) (c.in_ok-run.ensures.starts) c.in_ok-run.ensures.accounts c.in_ok-run.ensures.refused c.told-answer.result c.told-answer.new.run c.told-answer.ensures.tells)))

pub returns-clause-drives : goal.returns-clause-drives
returns-clause-drives g c =
    driven g.W.Dev.Disk g.W.Luck.Oracle g.W.Out.Outlet g.A.App g.W.World.scripted (g.A.App.handler c.args.app) c.args.script.now c.requires.rules c.in_ok-run.run' (g.W.World.kept c.start.new.world) (c.in_ok-run.ensures.starts) c.in_ok-run.ensures.accounts c.in_ok-run.ensures.refused c.told-answer.result c.told-answer.new.run c.told-answer.ensures.tells 0 (g.W.World.kept c.give_back.new.world) (c.ended_runs_keep.ensures g.W.World.scripted)
    c.told-answer.ensures.images c.told-answer.ensures.states c.give_back.ensures.given c.give_back.ensures.none c.give_back.result c.give_back.ensures.same

pub returns-in_err-run-clause-drives : goal.returns-in_err-run-clause-drives
returns-in_err-run-clause-drives g c = unstarted g.W.Dev.Disk g.W.Luck.Oracle g.W.Out.Outlet g.A.App g.W.World.scripted (g.A.App.handler c.args.app) c.args.script.now c.requires.rules 0 (g.W.World.kept c.start.new.world) c.from_residual.result c.in_err-run.field-0.0 c.from_residual.ensures.1 c.in_err-run.ensures.starts c.in_err-run.ensures.accounts
