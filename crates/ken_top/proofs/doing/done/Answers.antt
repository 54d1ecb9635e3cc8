use Rattle.std.proofs.Common.{◌≡◌, ◌∙◌, Option, Some, sym, ap, subst}
use Rattle.ken_drive.specs.Clauses.{files_of, views_of}
use Rattle.ken_words.specs.declared.commands.Command.{Command}
use Rattle.ken_words.specs.declared.commands.Command.TheVariants.{Torment}
use Rattle.ken_top.specs.Does.{Does, all_rounds}
use Rattle.ken_top.proofs.Commanded.{torment-does}
use Rattle.ken_top.proofs.doing.done.Goals as goal

-- the faults of a seed bring no node down that the script wouldn't
pub returns-in-Some-Torment : goal.returns-in-Some-Torment
returns-in-Some-Torment g c =
    let same : c.args.command ≡ Some (Torment c.in-Some-Torment.seed) = c.in-Some-Torment.is ∙ ap (λ (x : Command). Some x) (rw c.in-Some-Torment.is at c.in-Some-Torment.field-0-is) in
    subst (λ (command : Option Command). Does g.S.Source g.K.Sink (views_of g.W.Dev.Disk g.W.Luck.Oracle g.W.Out.Outlet g.W.World.scripted) (files_of g.W.File.Disk g.W.Files.tells) g.W.World.kept g.W.Files.filing (g.C.Cast.program c.args.cast) all_rounds command c.args.prefix.now c.args.source.now c.ran-in-Some-Torment.new.source c.args.sink.now c.ran-in-Some-Torment.new.sink c.args.world.now c.ran-in-Some-Torment.new.world c.ran-in-Some-Torment.result) (sym same)
    (torment-does g.S.Source g.K.Sink (views_of g.W.Dev.Disk g.W.Luck.Oracle g.W.Out.Outlet g.W.World.scripted) (files_of g.W.File.Disk g.W.Files.tells) g.W.World.kept g.W.Files.filing (g.C.Cast.program c.args.cast) all_rounds c.torment_spares.ensures c.in-Some-Torment.seed c.args.prefix.now c.args.source.now c.ran-in-Some-Torment.new.source c.args.sink.now c.ran-in-Some-Torment.new.sink c.args.world.now c.ran-in-Some-Torment.new.world c.ran-in-Some-Torment.result c.ran-in-Some-Torment.ensures.reports c.ran-in-Some-Torment.ensures.files)
