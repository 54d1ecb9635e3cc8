-- One disk, which was not saved.
use Rattle.std.proofs.Common.{Err, sym, subst, ◌∙◌}
use Rattle.ken_files.specs.Copies.{Saves}
use Rattle.ken_drive.specs.Clauses.{files_of, views_of}
use Rattle.ken_drive.specs.SavingParts.{SavesDisk}
use Rattle.ken_drive.proofs.SavingSome.{disk-not}
use Rattle.ken_drive.proofs.saving.save_disk.Goals as goal

pub returns-clause-saves : goal.returns-clause-saves
returns-clause-saves g c =
    subst (λ fault. SavesDisk (views_of g.W.Dev.Disk g.W.Luck.Oracle g.W.Out.Outlet g.W.World.scripted) (files_of g.W.File.Disk g.W.Files.tells) c.args.prefix.now c.args.node c.args.which c.args.disk.now c.save.new.disk (g.W.Files.filing c.args.world.now) (g.W.Files.filing c.save.new.files) (Err fault)) (sym c.fault_at.ensures)
    (disk-not (views_of g.W.Dev.Disk g.W.Luck.Oracle g.W.Out.Outlet g.W.World.scripted) (files_of g.W.File.Disk g.W.Files.tells) c.args.prefix.now c.args.node c.args.which c.args.disk.now c.save.new.disk (g.W.Files.filing c.args.world.now) (g.W.Files.filing c.save.new.files) c.in-Err.fault
    (subst (λ path. Saves (files_of g.W.File.Disk g.W.Files.tells) path (g.W.Dev.Disk.told c.args.disk.now) (g.W.Files.filing c.args.world.now) (g.W.Files.filing c.save.new.files) (Err c.in-Err.fault)) (c.as_str.ensures.value ∙ c.in_ok-path.ensures) c.in-Err.ensures.saves)
    c.in-Err.ensures.disk)
