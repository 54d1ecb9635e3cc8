use Rattle.ken_drive.specs.Clauses.{files_of, views_of}
use Rattle.ken_top.specs.Does.{all_rounds}
use Rattle.ken_top.proofs.Saved.{reports-saving}
use Rattle.ken_top.proofs.saving.saved.Goals as goal

pub returns : goal.returns
returns g c = reports-saving (g.C.Cast.program c.args.cast) all_rounds (views_of g.W.Dev.Disk g.W.Luck.Oracle g.W.Out.Outlet g.W.World.scripted) (files_of g.W.File.Disk g.W.Files.tells) c.args.prefix.now (g.W.Files.filing c.args.world.now) (g.W.Files.filing c.save-run.new.world) (g.W.World.kept c.save-run.new.world) g.S.Source c.args.source.now c.save-run.new.source g.K.Sink c.args.sink.now c.reported.new.sink c.save-run.result c.reported.result c.save-run.ensures c.reported.ensures
