-- An outlet that fails only at the calls of a list.
use Rattle.std.specs.Prelude.{◌≡◌, ℕ, ◌+◌, List, Option, Some, None, Result, Ok, Err}
use Rattle.std.specs.List.{Contains}
use Rattle.ken_ship.specs.declared.faults.OutFault.{OutFault}
use Rattle.ken_ship.specs.declared.faults.OutFault.TheVariants.{Failed, Memory}
use Rattle.ken_ship.specs.Causes.{risen}

-- whose outlet it is; how many calls were made, but for those that wanted memory, and the numbers of those that may fail, from 1. Calls
-- change neither the node nor these numbers
pub record Fate : Type 0 where
  pub node : ℕ
  pub calls : ℕ
  pub fails : List ℕ

-- one call more was made
abbrev pub called : Fate → Fate
called f = record f { calls = risen f.calls }

-- the fate before and after a call, by its answer: one that fails is on the list, and one that wants memory doesn't count
abbrev pub Suffers : {T : Type 0} → Result T OutFault → Fate → Fate → Type 0
Suffers (Ok _) old new = new ≡ called old
Suffers (Err Failed) old new = Contains old.fails (old.calls + 1) × (new ≡ called old)
Suffers (Err Memory) old new = new ≡ old

-- where something was told, it is told still, and R holds of the old and the new; where nothing was told, nothing is
abbrev pub Follows : {X : Type 0} → (X → X → Type 0) → Option X → Option X → Type 0
Follows {X} R (Some old) told = (new : X) × (told ≡ Some new) × R old new
Follows R None told = told ≡ None
