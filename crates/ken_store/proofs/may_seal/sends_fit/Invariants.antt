use Rattle.std.proofs.Common.{drop, ◌↔◌}
use Rattle.std.specs.List.{AllByRecursion}
use Rattle.ken_record.specs.Grammar.{IsSent}
use Rattle.ken_store.proofs.may_seal.sends_fit.Given as goal

abbrev pub invariant-loop-send : goal.invariant-loop-send
invariant-loop-send l = AllByRecursion IsSent (drop l.send-index l.sends) ↔ AllByRecursion IsSent l.sends
