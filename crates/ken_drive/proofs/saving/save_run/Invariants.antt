use Rattle.ken_drive.specs.Clauses.{files_of, views_of}
use Rattle.ken_drive.proofs.Giving.{AreGiven}
use Rattle.ken_drive.proofs.SavingStations.{SavesSoFar}
use Rattle.ken_drive.proofs.saving.save_run.Given as goal

-- the stations so far were given back, and saved by the answer so far
abbrev pub invariant-loop-node : goal.invariant-loop-node
invariant-loop-node g l =
    AreGiven (λ s k. Unit {0}) l.fn.run.stations.items l.node-iterator.b.rest.items l.node-iterator.a.start (g.W.World.kept l.fn.world) (g.W.World.kept l.world)
    × SavesSoFar (views_of g.W.Dev.Disk g.W.Luck.Oracle g.W.Out.Outlet g.W.World.scripted) (files_of g.W.File.Disk g.W.Files.tells) l.fn.prefix l.fn.run.stations.items l.node-iterator.b.rest.items l.node-iterator.a.start (g.W.World.kept l.fn.world) (g.W.World.kept l.world) (g.W.Files.filing l.fn.world) (g.W.Files.filing l.world) l.saved
