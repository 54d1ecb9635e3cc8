-- What a turn is once the heap that it lends comes back.
use Rattle.std.specs.Borrow.{Lends, RattleType, MutBor, Fml}
use mir.Syntax.{named}
use Rattle.std.specs.Prelude.{[]}
use Rattle.ken_alloc.specs.Objects.{FramedHeap}
use Rattle.ken_alloc.specs.contracts.objects.Objects as objects
use Rattle.ken_app.specs.declared.turn.Turn.{Turn}
use Rattle.ken_app.specs.contracts.turn.Turn.{the_row}

-- the turn with that heap
abbrev pub with_objects : {O : Type 0} → Turn O → FramedHeap → Turn O
with_objects t w = record t { objects = record t.objects { now = w } }

-- the turn ends with the last heap behind r. `named 1` is the place of the turn's lifetime in the signature
abbrev pub LendsObjects : (O : RattleType) → MutBor (Turn O.Denot) → MutBor FramedHeap → Fml
LendsObjects O t r = Lends (the_row (record { mir = named 1; lft = [] }) O) objects.the_row t r (with_objects t.now)
