use Rattle.std.proofs.Common.{◌≡◌, drop}
use Rattle.ken_store.specs.Numbers.{place_after}
use Rattle.ken_store.proofs.resume.place_after.Given as goal

abbrev pub invariant-loop-record : goal.invariant-loop-record
invariant-loop-record l = place_after l.place l.records ≡ place_after l.gate (drop l.record-index l.records)
