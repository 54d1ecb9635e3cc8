use Rattle.std.proofs.Common.{◌≡◌}
use Rattle.ken_drive.specs.Finishing.{WasKept}
use Rattle.ken_drive.proofs.Giving.{AreGiven}
use Rattle.ken_drive.proofs.finishing.finish.Given as goal

abbrev pub invariant-loop-node : goal.invariant-loop-node
invariant-loop-node g l = AreGiven (λ s k. WasKept s k) l.fn.run.stations.items l.node-iterator.b.rest.items l.node-iterator.a.start (g.W.World.kept l.fn.world) (g.W.World.kept l.world) × (g.W.Files.filing l.world ≡ g.W.Files.filing l.fn.world)
