-- The handler of a kind can be run.
use denote.Param.Send.{sendable}
use mir.Syntax.{of_param}
use Rattle.ken_apps.proofs.kind_app.KindApp.TheSendSync.{the_sync as kind_app}
use Rattle.ken_drive.proofs.driving.drive_kind.Goals as goal

pub drive-requires : goal.drive-requires
drive-requires g c = (record { owned = c.type_bounds.send-W-Dev.owned; leaving = λ k. c.type_bounds.send-W-Dev.leaving (λ _. k (of_param 3)) }, (record { owned = c.type_bounds.send-W-Luck.owned; leaving = λ k. c.type_bounds.send-W-Luck.leaving (λ _. k (of_param 4)) }, (record { owned = c.type_bounds.send-W-Out.owned; leaving = λ k. c.type_bounds.send-W-Out.leaving (λ _. k (of_param 5)) }, (c.type_bounds.sync-R, (search (sendable, kind_app), (c.kinds_serve.ensures c.args.script.now, (c.requires.rules, c.requires.none)))))))
