-- A run without its nodes.
use Rattle.ken_drive.proofs.StartingAll.{empty-started}
use Rattle.ken_drive.proofs.starting.empty.Goals as goal

pub returns-clause-started : goal.returns-clause-started
returns-clause-started g c =
    empty-started (λ w. g.D.Disk.told w.disk) (λ w. g.D.Disk.size w.disk) g.U.Outlet.took g.A.App.handler c.args.app c.args.script.now c.new.result c.requires.limits c.requires.serves
    c.new.ensures.app c.new.ensures.none c.new.ensures.mail c.new.ensures.acks
