-- Three disks, of which the first two were saved.
use Rattle.ken_drive.specs.Clauses.{files_of, views_of}
use Rattle.ken_drive.proofs.SavingSome.{third-too}
use Rattle.ken_drive.proofs.saving.save_disks.Goals as goal

pub returns-clause-saves : goal.returns-clause-saves
returns-clause-saves g c =
    third-too (views_of g.W.Dev.Disk g.W.Luck.Oracle g.W.Out.Outlet g.W.World.scripted) (files_of g.W.File.Disk g.W.Files.tells) c.args.prefix.now c.args.node
    c.args.disks.now.log c.save_disk.new.disk c.args.disks.now.image c.save_disk-2.new.disk c.args.disks.now.second c.save_disk-3.new.disk
    (g.W.Files.filing c.args.world.now) (g.W.Files.filing c.save_disk.new.world) (g.W.Files.filing c.save_disk-2.new.world) (g.W.Files.filing c.save_disk-3.new.world)
    c.in_ok-save_disk.ensures.saves c.requires c.in_ok-save_disk-2.ensures.saves c.save_disk-3.result c.save_disk-3.ensures.saves
