use Rattle.ken_drive.specs.Clauses.{views_of}
use Rattle.ken_top.proofs.Soaked.{sums-up}
use Rattle.ken_top.proofs.soaking.soaked_alone.Goals as goal

pub returns-clause-sums : goal.returns-clause-sums
returns-clause-sums g c = sums-up g.K.Sink (views_of g.W.Dev.Disk g.W.Luck.Oracle g.W.Out.Outlet g.W.World.scripted) (g.W.World.kept c.soak_alone-soak.new.world) c.args.seed c.args.nodes c.args.inputs 0 c.args.sink.now c.summed_up.new.sink c.soak_alone-soak.result c.summed_up.result c.soak_alone-soak.ensures.soaks
    c.summed_up.ensures.out c.summed_up.ensures.refused c.summed_up.ensures.write c.summed_up.ensures.no_failed_write c.summed_up.ensures.faults
