use Rattle.std.proofs.Common.{map}
use Rattle.std.specs.Prelude.{string_bytes}
use Rattle.ken_drive.specs.Clauses.{files_of, views_of}
use Rattle.ken_words.specs.Commands.{command_of, prefix_of}
use Rattle.ken_top.specs.Does.{no_rounds}
use Rattle.ken_top.specs.Programs.{kinds}
use Rattle.ken_top.proofs.Commanded.{short-does}
use Rattle.ken_top.proofs.top.ken_alone.Goals as goal

-- memory was short for the words
pub returns-in-Err : goal.returns-in-Err
returns-in-Err g c = short-does g.S.Source g.K.Sink (views_of g.W.Dev.Disk g.W.Luck.Oracle g.W.Out.Outlet g.W.World.scripted) (files_of g.W.File.Disk g.W.Files.tells) g.W.World.kept g.W.Files.filing kinds no_rounds (command_of (map string_bytes c.args.words.now)) (prefix_of (map string_bytes c.args.words.now)) c.args.source.now c.args.sink.now c.args.world.now c.requires
