-- A turn of the heap that is taken back.
use Rattle.std.proofs.Common.{◌≡◌, List, ℕ, Option, Some, None, IfSome, ◌∙◌, ap, subst}
use Rattle.ken_alloc.specs.Objects.{FramedHeap, Heap, heap_in}
use Rattle.ken_model.specs.Layout.{StandsFor}
use Rattle.ken_model.specs.Reading.{value_of}
use Rattle.ken_model.proofs.Unique.{value_of-unique}

-- it stands for what it stood for when the turn began
pub restored : (first made back : FramedHeap) → StandsFor first.bytes first.value → made.begun ≡ Some first.bytes → IfSome made.begun (λ before. heap_in back ≡ record { value = value_of before; bytes = before; begun = None }) → back.value ≡ first.value
restored first made back stands begun is =
    let it : heap_in back ≡ record { value = value_of first.bytes; bytes = first.bytes; begun = None } = subst (λ (o : Option (List ℕ)). IfSome o (λ before. heap_in back ≡ record { value = value_of before; bytes = before; begun = None })) begun is in
    ap (λ (h : Heap). h.value) it ∙ value_of-unique first.bytes first.value stands
