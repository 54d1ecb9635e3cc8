use Rattle.ken_model.specs.Heap.{IsHeap}
use Rattle.ken_model.specs.KeyValue.{pair_of}
use Rattle.ken_apps.proofs.Walks.{Seeks, to_end}
use Rattle.ken_leases.proofs.blocks.place_of.Given as goal

-- what is sought is found from the next block on
abbrev pub invariant-loop-next : goal.invariant-loop-next
invariant-loop-next l = record {
  heap : IsHeap l.objects.value;
  seeks : Seeks l.name l.objects.value.blocks (pair_of l.name l.objects.value.blocks) l.next;
}

abbrev pub decreases-loop-next : goal.decreases-loop-next
decreases-loop-next l = to_end l.next
