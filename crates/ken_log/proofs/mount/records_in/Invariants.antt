use Rattle.ken_log.proofs.Taken.{Finds}
use Rattle.ken_log.proofs.mount.records_in.Given as goal

abbrev pub invariant-loop : goal.invariant-loop
invariant-loop l = Finds l.place l.bytes l.most l.counter l.records.items l.end l.rest
