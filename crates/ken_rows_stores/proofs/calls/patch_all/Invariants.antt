use Rattle.ken_rows_stores.specs.Stores.{IsIdle}
use Rattle.ken_rows_stores.proofs.calls.patch_all.Given as goal

abbrev pub invariant-loop-written : goal.invariant-loop-written
invariant-loop-written l = IsIdle l.store
