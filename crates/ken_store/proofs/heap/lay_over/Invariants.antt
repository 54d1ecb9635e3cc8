use Rattle.ken_store.proofs.Heaps.{Laid}
use Rattle.ken_store.proofs.heap.lay_over.Given as goal

abbrev pub invariant-loop-page : goal.invariant-loop-page
invariant-loop-page l = Laid l.count l.pages l.initial.heap l.page-index l.heap
