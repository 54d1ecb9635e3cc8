-- The handler of a kind can be run, with no rounds too.
use mir.Syntax.{of_param}
use Rattle.ken_drive.proofs.driving.drive_kind_alone.Goals as goal

pub drive_alone-requires : goal.drive_alone-requires
drive_alone-requires g c = (record { owned = c.type_bounds.send-W-Dev.owned; leaving = λ k. c.type_bounds.send-W-Dev.leaving (λ _. k (of_param 2)) }, (record { owned = c.type_bounds.send-W-Luck.owned; leaving = λ k. c.type_bounds.send-W-Luck.leaving (λ _. k (of_param 3)) }, (record { owned = c.type_bounds.send-W-Out.owned; leaving = λ k. c.type_bounds.send-W-Out.leaving (λ _. k (of_param 4)) }, (c.kinds_serve.ensures c.args.script.now, (c.requires.rules, c.requires.none)))))
