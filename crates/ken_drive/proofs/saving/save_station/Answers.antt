-- The disks of a node are saved, and kept.
use Rattle.ken_drive.specs.Clauses.{files_of, views_of}
use Rattle.ken_drive.proofs.SavingStations.{station-saved}
use Rattle.ken_drive.proofs.saving.save_station.Goals as goal

pub returns-clause-saves : goal.returns-clause-saves
returns-clause-saves g c =
    station-saved (views_of g.W.Dev.Disk g.W.Luck.Oracle g.W.Out.Outlet g.W.World.scripted) (files_of g.W.File.Disk g.W.Files.tells) c.args.prefix.now c.args.node c.args.station c.devices_of-disks.result.0 c.save_disks-saved.new.disks c.devices_of-disks.result.1 c.devices_of-disks.result.2 (g.W.World.kept c.keep.new.self) (g.W.Files.filing c.args.world.now) (g.W.Files.filing c.save_disks-saved.new.world) (g.W.Files.filing c.keep.new.self) c.save_disks-saved.result
    c.devices_of-disks.ensures c.keep.ensures.given c.keep.ensures.files c.save_disks-saved.ensures.saves
