use Rattle.std.proofs.Common.{Option, sym, subst, ◌∙◌}
use Rattle.ken_model.specs.declared.values.Value.{Value}
use Rattle.ken_core.specs.Heaps.{IsValueOf}
use Rattle.ken_core.proofs.Heaps.{read_heap}
use Rattle.ken_core.proofs.heap.Heap.take_value.Goals as goal

pub returns-in-Some-clause-heap : goal.returns-in-Some-clause-heap
returns-in-Some-clause-heap c =
    read_heap c.self.inside.bytes.items c.in-Some.value (subst (λ (o : Option Value). IsValueOf c.self.inside.bytes.items o) (sym c.take.ensures.value ∙ c.in-Some.is) c.self.invariant)
