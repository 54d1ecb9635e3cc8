use Rattle.std.proofs.Common.{◌≡◌, ◌++◌, take}
use Rattle.ken_drive.proofs.report.add_emissions.Given as goal

abbrev pub invariant-loop-emission : goal.invariant-loop-emission
invariant-loop-emission l = l.all.items ≡ l.fn.all.items ++ take l.emission-index l.emissions
