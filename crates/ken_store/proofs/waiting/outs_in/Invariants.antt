use Rattle.std.proofs.Common.{◌≡◌, ◌++◌, take}
use Rattle.std.specs.List.{flat_map}
use Rattle.ken_store.specs.Kept.{base_outs, record_outs}
use Rattle.ken_store.proofs.waiting.outs_in.Given as goal

abbrev pub invariant-loop-record : goal.invariant-loop-record
invariant-loop-record g l = l.outs.items ≡ base_outs l.log.base ++ flat_map record_outs (take l.record-index l.records)
