use Rattle.ken_core.proofs.Doubt.{restart_keeps_heap}
use Rattle.ken_core.proofs.laws.restart_keeps_heap.Goals as goal

pub returns : goal.returns
returns c = restart_keeps_heap
