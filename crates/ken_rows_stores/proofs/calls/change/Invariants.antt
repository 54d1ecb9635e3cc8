use Rattle.std.proofs.Common.{◌≡◌}
use Rattle.ken_rows_stores.proofs.calls.change.Given as goal

abbrev pub invariant-loop-page : goal.invariant-loop-page
invariant-loop-page l = l.objects.begun ≡ l.initial.objects.begun
