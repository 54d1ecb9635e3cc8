-- What the handler's side is once the heap that it lends comes back.
use Rattle.std.specs.Borrow.{Lends, RattleType, MutBor, Fml}
use Rattle.ken_alloc.specs.Objects.{FramedHeap}
use Rattle.ken_alloc.specs.contracts.objects.Objects as objects
use Rattle.ken_store.specs.declared.turning.TurnSide.{TurnSide}
use Rattle.ken_store.specs.contracts.turning.TurnSide.{the_row}
use Rattle.ken_store.specs.declared.store.Store.{Store}
use Rattle.ken_store.specs.contracts.store.Store as stores

-- the side with that heap
abbrev pub with_heap : {D : Type 0} → TurnSide D → FramedHeap → TurnSide D
with_heap side heap = record side { objects = heap }

-- the side ends with the last heap behind r
abbrev pub LendsHeap : (D : RattleType) → MutBor (TurnSide D.Denot) → MutBor FramedHeap → Fml
LendsHeap D side r = Lends (the_row D) objects.the_row side r (with_heap side.now)

-- the same of a whole store
abbrev pub with_store_heap : {D : Type 0} → Store D → FramedHeap → Store D
with_store_heap store heap = record store { turns = with_heap store.turns heap }

abbrev pub LendsStoreHeap : (D : RattleType) → MutBor (Store D.Denot) → MutBor FramedHeap → Fml
LendsStoreHeap D store r = Lends (stores.the_row D) objects.the_row store r (with_store_heap store.now)
