use Rattle.ken_drive.specs.Clauses.{views_of}
use Rattle.ken_top.specs.Does.{all_rounds}
use Rattle.ken_top.specs.Programs.{by_seed}
use Rattle.ken_top.proofs.Played.{reports}
use Rattle.ken_top.proofs.running.ran.Goals as goal

pub returns-clause-reports : goal.returns-clause-reports
returns-clause-reports g c = reports g.S.Source g.K.Sink (by_seed c.args.seed (g.C.Cast.program c.args.cast)) all_rounds (views_of g.W.Dev.Disk g.W.Luck.Oracle g.W.Out.Outlet g.W.World.scripted) (g.W.World.kept c.run-run.new.world) c.args.source.now c.run-run.new.source c.args.sink.now c.reported.new.sink c.run-run.result c.reported.result c.run-run.ensures.plays c.reported.ensures
