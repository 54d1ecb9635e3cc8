use Rattle.std.proofs.Common.{◌≡◌, take}
use Rattle.ken_store.proofs.kept.kept_records.Given as goal

abbrev pub invariant-loop-item : goal.invariant-loop-item
invariant-loop-item l = l.kept.items ≡ take l.item-index l.records
