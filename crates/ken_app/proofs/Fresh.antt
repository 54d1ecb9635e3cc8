-- A turn of the heap that was just begun.
use Rattle.std.proofs.Common.{◌≡◌, ℕ, List, Some, IsSome, IfSome, Option, refl, sym, subst}
use Rattle.ken_alloc.specs.Objects.{Heap}
use Rattle.ken_model.specs.declared.messages.Message.{Message}
use Rattle.ken_model.specs.Layout.{StandsFor}
use Rattle.ken_model.specs.Reading.{value_of}
use Rattle.ken_model.proofs.Unique.{value_of-unique}
use Rattle.ken_app.specs.Turning.{IsFresh, IsPlaced, first_turning}

pub is_fresh : (node nodes : ℕ) (m : Message) (heap : Heap) → IsPlaced node nodes → StandsFor heap.bytes heap.value → heap.begun ≡ Some heap.bytes → IsFresh (first_turning node nodes m heap)
is_fresh node nodes m heap placed stands begun = record {
  placed = placed;
  begun = subst (λ (o : Option (List ℕ)). IsSome o) (sym begun) refl;
  unchanged = subst (λ (o : Option (List ℕ)). IfSome o (λ before. value_of before ≡ heap.value)) (sym begun) (value_of-unique heap.bytes heap.value stands);
  draws = refl;
  sends = refl;
  outs = refl;
}
