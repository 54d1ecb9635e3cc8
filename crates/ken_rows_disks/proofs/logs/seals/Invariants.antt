use Rattle.ken_rows_disks.specs.Logs.{TakesSeals}
use Rattle.ken_rows_disks.proofs.logs.seals.Given as goal

abbrev pub invariant-loop : goal.invariant-loop
invariant-loop l = TakesSeals l.log
