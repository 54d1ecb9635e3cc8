use Rattle.ken_rows_stores.specs.Stores.{IsIdle}
use Rattle.ken_rows_stores.proofs.calls.turns.Given as goal

abbrev pub invariant-loop : goal.invariant-loop
invariant-loop l = IsIdle l.store
