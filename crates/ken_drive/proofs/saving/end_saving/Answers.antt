-- A run that was saved.
use Rattle.std.proofs.Common.{◌∙◌, Ok, refl, sym, subst}
use Rattle.ken_drive.specs.Clauses.{files_of, views_of}
use Rattle.ken_drive.specs.SavingParts.{EndsSavingBy}
use Rattle.ken_drive.proofs.saving.end_saving.Goals as goal

pub returns-in_ok-save_run-in-Ok : goal.returns-in_ok-save_run-in-Ok
returns-in_ok-save_run-in-Ok g c =
    subst (λ answer. EndsSavingBy (views_of g.W.Dev.Disk g.W.Luck.Oracle g.W.Out.Outlet g.W.World.scripted) (files_of g.W.File.Disk g.W.Files.tells) c.args.prefix.now c.args.run (g.W.World.kept c.args.world.now) (g.W.World.kept c.save_run.new.world) answer (g.W.Files.filing c.args.world.now) (g.W.Files.filing c.save_run.new.world) (Ok c.in-Ok.lines)) (sym c.in-Ok.is)
    (refl, c.in_ok-save_run-in-Ok.ensures)

-- where its answer isn't want of memory, a run has few nodes
pub save_run-requires-after_bounds : goal.save_run-requires-after_bounds
save_run-requires-after_bounds g c κs within = c.requires (λ is. (let both = sym c.in-Ok.is ∙ is in absurd (cc)))

pub give_back-requires-after_bounds : goal.give_back-requires-after_bounds
give_back-requires-after_bounds g c κs within = λ other. c.requires (λ is. other (sym c.in-Err.is ∙ is))
