-- A run of a script, from its start to its end.
use mir.Syntax.{of_param}
use Rattle.std.proofs.Common.{ℕ, sym, subst}
use Rattle.ken_drive.specs.Clauses.{views_of}
use Rattle.ken_drive.specs.Driven.{Drives}
use Rattle.ken_drive.proofs.Acts.{script-modest}
use Rattle.ken_drive.proofs.Answering.{driven, few-nodes, may-drain, unstarted}
use Rattle.ken_drive.proofs.driving.drive.Goals as goal

pub drive_alone-requires : goal.drive_alone-requires
drive_alone-requires g c = (record { owned = c.type_bounds.send-W-Dev.owned; leaving = λ k. c.type_bounds.send-W-Dev.leaving (λ _. k (of_param 2)) }, (record { owned = c.type_bounds.send-W-Luck.owned; leaving = λ k. c.type_bounds.send-W-Luck.leaving (λ _. k (of_param 3)) }, (record { owned = c.type_bounds.send-W-Out.owned; leaving = λ k. c.type_bounds.send-W-Out.leaving (λ _. k (of_param 4)) }, (c.requires.serves, (c.requires.rules, c.requires.none)))))

pub start-requires : goal.start-requires
start-requires g c = (record { owned = c.type_bounds.send-W-Dev.owned; leaving = λ k. c.type_bounds.send-W-Dev.leaving (λ _. k (of_param 2)) }, (record { owned = c.type_bounds.send-W-Luck.owned; leaving = λ k. c.type_bounds.send-W-Luck.leaving (λ _. k (of_param 3)) }, (record { owned = c.type_bounds.send-W-Out.owned; leaving = λ k. c.type_bounds.send-W-Out.leaving (λ _. k (of_param 4)) }, (c.requires.rules.limits, (script-modest c.args.script.now c.requires.rules, (c.requires.serves, c.requires.none))))))

pub told_by_rounds-answer-requires : goal.told_by_rounds-answer-requires
told_by_rounds-answer-requires g c = (record { owned = c.type_bounds.send-W-Dev.owned; leaving = λ k. c.type_bounds.send-W-Dev.leaving (λ _. k (of_param 1)) }, (record { owned = c.type_bounds.send-W-Luck.owned; leaving = λ k. c.type_bounds.send-W-Luck.leaving (λ _. k (of_param 2)) }, (record { owned = c.type_bounds.send-W-Out.owned; leaving = λ k. c.type_bounds.send-W-Out.leaving (λ _. k (of_param 3)) }, (c.type_bounds.sync-R, (record { shared = c.type_bounds.sync-A.shared }, may-drain g.W.Dev.Disk g.W.Luck.Oracle g.W.Out.Outlet g.A.App g.W.World.scripted (g.A.App.handler c.args.app) c.args.script.now c.requires.rules c.in_ok-run.run' (g.W.World.kept c.start.new.world) (c.in_ok-run.ensures.starts) c.in_ok-run.ensures.accounts c.in_ok-run.ensures.refused)))))

pub give_back-requires : goal.give_back-requires
give_back-requires g c = (record { owned = c.type_bounds.send-W-Dev.owned; leaving = λ k. c.type_bounds.send-W-Dev.leaving (λ _. k (of_param 2)) }, (record { owned = c.type_bounds.send-W-Luck.owned; leaving = λ k. c.type_bounds.send-W-Luck.leaving (λ _. k (of_param 3)) }, (record { owned = c.type_bounds.send-W-Out.owned; leaving = λ k. c.type_bounds.send-W-Out.leaving (λ _. k (of_param 4)) }, few-nodes g.W.Dev.Disk g.W.Luck.Oracle g.W.Out.Outlet g.A.App g.W.World.scripted (g.A.App.handler c.args.app) c.args.script.now c.requires.rules c.in_ok-run.run' (g.W.World.kept c.start.new.world) (c.in_ok-run.ensures.starts) c.in_ok-run.ensures.accounts c.in_ok-run.ensures.refused c.told_by_rounds-answer.result c.told_by_rounds-answer.new.run c.told_by_rounds-answer.ensures.tells)))

pub returns-clause-drives : goal.returns-clause-drives
returns-clause-drives g c =
    driven g.W.Dev.Disk g.W.Luck.Oracle g.W.Out.Outlet g.A.App g.W.World.scripted (g.A.App.handler c.args.app) c.args.script.now c.requires.rules c.in_ok-run.run' (g.W.World.kept c.start.new.world) (c.in_ok-run.ensures.starts) c.in_ok-run.ensures.accounts c.in_ok-run.ensures.refused c.told_by_rounds-answer.result c.told_by_rounds-answer.new.run c.told_by_rounds-answer.ensures.tells c.args.script.now.rounds (g.W.World.kept c.give_back.new.world) (c.ended_runs_keep.ensures g.W.World.scripted)
    c.told_by_rounds-answer.ensures.images c.told_by_rounds-answer.ensures.states c.give_back.ensures.given c.give_back.ensures.none c.give_back.result c.give_back.ensures.same

pub returns-in_err-run-clause-drives : goal.returns-in_err-run-clause-drives
returns-in_err-run-clause-drives g c = unstarted g.W.Dev.Disk g.W.Luck.Oracle g.W.Out.Outlet g.A.App g.W.World.scripted (g.A.App.handler c.args.app) c.args.script.now c.requires.rules c.args.script.now.rounds (g.W.World.kept c.start.new.world) c.from_residual.result c.in_err-run.field-0.0 c.from_residual.ensures.1 c.in_err-run.ensures.starts c.in_err-run.ensures.accounts

pub returns-then-script-eq0-clause-drives : goal.returns-then-script-eq0-clause-drives
returns-then-script-eq0-clause-drives g c = subst (λ (n : ℕ). Drives (views_of g.W.Dev.Disk g.W.Luck.Oracle g.W.Out.Outlet g.W.World.scripted) (g.A.App.handler c.args.app) c.args.script.now n (g.W.World.kept c.drive_alone.new.world) c.drive_alone.result) (sym c.if-script-eq0.true) c.drive_alone.ensures.drives
