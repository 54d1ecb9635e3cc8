-- A value on the heap that is written through a borrow.
use base.Fml.{Fml}
use denote.RattleType.{RattleType}
use denote.Ref.{MutBor}
use denote.Follow.{follows}
use Rattle.core.specs.declared.alloc.Allocator.{Ghosts}
use Rattle.ken_frame.specs.declared.raw.Own.{Own}
use Rattle.ken_frame.specs.contracts.raw.Own.{the_row}

-- the owner after a write of w
abbrev pub with_value : {X Z : Type 0} → Own X Z → X → Own X Z
with_value o w = record { at = o.at; alloc = o.alloc; value = w }

-- once the borrow r ends, the owner behind o holds the last value written through r
abbrev pub own_follows : (R Z : RattleType) (g : Ghosts Z.Denot) → MutBor (Own R.Denot Z.Denot) → MutBor R.Denot → Fml
own_follows R Z g o r = follows (the_row R Z g) R o.ghost_name r.ghost_name (with_value o.now)
