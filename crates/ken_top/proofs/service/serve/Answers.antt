use Rattle.std.proofs.Common.{List, ℕ, Option, map, subst}
use Rattle.std.specs.Prelude.{string_bytes}
use Rattle.ken_app.specs.Limited.{limited}
use Rattle.ken_drive.specs.Clauses.{files_of, views_of}
use Rattle.ken_words.specs.declared.commands.Command.{Command}
use Rattle.ken_words.specs.Commands.{prefix_of}
use Rattle.ken_top.specs.Commands.{service_command_of}
use Rattle.ken_top.specs.Does.{Does, all_rounds}
use Rattle.ken_top.specs.Programs.{service}
use Rattle.ken_top.proofs.Commanded.{short-does}
use Rattle.ken_top.proofs.service.serve.Goals as goal

pub returns-in-Ok : goal.returns-in-Ok
returns-in-Ok g c =
    subst (λ (command : Option Command). Does g.S.Source g.K.Sink (views_of g.W.Dev.Disk g.W.Luck.Oracle g.W.Out.Outlet g.W.World.scripted) (files_of g.W.File.Disk g.W.Files.tells) g.W.World.kept g.W.Files.filing (service (limited (g.A.Service.handler c.args.app))) all_rounds command (prefix_of (map string_bytes c.args.words.now)) c.args.source.now c.done.new.source c.args.sink.now c.done.new.sink c.args.world.now c.done.new.world c.done.result) c.in-Ok.ensures.asked
    (subst (λ (prefix : List ℕ). Does g.S.Source g.K.Sink (views_of g.W.Dev.Disk g.W.Luck.Oracle g.W.Out.Outlet g.W.World.scripted) (files_of g.W.File.Disk g.W.Files.tells) g.W.World.kept g.W.Files.filing (service (limited (g.A.Service.handler c.args.app))) all_rounds c.in-Ok.command prefix c.args.source.now c.done.new.source c.args.sink.now c.done.new.sink c.args.world.now c.done.new.world c.done.result) c.prefix_in.ensures c.done.ensures)

-- memory was short for the words
pub returns-in-Err : goal.returns-in-Err
returns-in-Err g c = short-does g.S.Source g.K.Sink (views_of g.W.Dev.Disk g.W.Luck.Oracle g.W.Out.Outlet g.W.World.scripted) (files_of g.W.File.Disk g.W.Files.tells) g.W.World.kept g.W.Files.filing (service (limited (g.A.Service.handler c.args.app))) all_rounds (service_command_of (map string_bytes c.args.words.now)) (prefix_of (map string_bytes c.args.words.now)) c.args.source.now c.args.sink.now c.args.world.now c.requires
