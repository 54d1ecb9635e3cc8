use Rattle.std.proofs.Common.{◌≡◌, ◌++◌, take}
use Rattle.ken_store.specs.Ahead.{AreFound, ahead_layers, origins, record_layers, record_origins}
use Rattle.ken_store.proofs.handing.ahead_of.Given as goal

abbrev pub invariant-loop-record : goal.invariant-loop-record
invariant-loop-record l = AreFound l.ahead.items × (ahead_layers l.ahead.items ≡ ahead_layers l.initial.ahead.items ++ record_layers (take l.record-index l.records)) × (origins l.ahead.items ≡ origins l.initial.ahead.items ++ record_origins (take l.record-index l.records))
