use Rattle.ken_drive.specs.Ended.{HaveSaid}
use Rattle.ken_drive.proofs.report.gather.Given as goal

abbrev pub invariant-loop-node : goal.invariant-loop-node
invariant-loop-node g l = HaveSaid l.node l.run.stations.items l.summary
