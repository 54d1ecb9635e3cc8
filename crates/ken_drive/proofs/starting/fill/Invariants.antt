use Rattle.std.proofs.Common.{◌≡◌, ℕ}
use Rattle.ken_run.specs.Accounts.{AreAccounted}
use Rattle.ken_run.specs.Refusals.{AreRefused}
use Rattle.ken_drive.specs.Starting.{HaveStarted, game_by, terms_of}
use Rattle.ken_drive.proofs.starting.fill.Given as goal

abbrev pub invariant-loop-node : goal.invariant-loop-node
invariant-loop-node g l =
    HaveStarted (λ w. g.W.Dev.Disk.told w.disk) (λ w. g.W.Dev.Disk.size w.disk) g.W.Out.Outlet.took g.A.App.handler g.W.World.scripted g.W.Luck.Oracle.telling g.W.Out.Outlet.faults g.W.Out.Outlet.fate (g.A.App.handler l.fn.run.app) l.fn.script l.node l.run
    × ((v : ℕ) → g.W.World.kept l.world v ≡ g.W.World.kept l.fn.world v)
    × AreAccounted (λ w. g.W.Dev.Disk.told w.disk) (λ w. g.W.Dev.Disk.faults w.disk) (λ w. g.W.Dev.Disk.fate w.disk) g.W.Luck.Oracle.telling (terms_of g.W.World.scripted l.fn.script) (game_by (g.A.App.handler l.fn.run.app) l.fn.script) l.node l.run
    × AreRefused g.W.Out.Outlet.faults g.W.Out.Outlet.fate (terms_of g.W.World.scripted l.fn.script) l.node l.run
    × (g.W.Files.filing l.world ≡ g.W.Files.filing l.fn.world)
