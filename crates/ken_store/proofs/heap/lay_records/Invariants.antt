use Rattle.ken_store.proofs.Heaps.{Piled}
use Rattle.ken_store.proofs.heap.lay_records.Given as goal

abbrev pub invariant-loop-record : goal.invariant-loop-record
invariant-loop-record l = Piled l.count l.records l.initial.heap l.record-index l.heap
