-- What an outlet took.
use Rattle.std.specs.Prelude.{List, [], ◌∷◌, ◌++◌, Option, Some, None, Result, Ok, Err}
use Rattle.ken_model.specs.declared.messages.Out.{Out}
use Rattle.ken_ship.specs.declared.faults.OutFault.{OutFault}

-- the output that was taken, by the answer
abbrev pub if_taken : {T : Type 0} → Result T OutFault → Out → List Out
if_taken (Ok _) out = out ∷ []
if_taken (Err _) out = []

-- what an outlet took with Ok, as far as it tells, after it took these too
abbrev pub also_took : List Out → Option (List Out) → Option (List Out)
also_took [] told = told
also_took (o ∷ os) (Some outs) = Some (outs ++ o ∷ os)
also_took (o ∷ os) None = None
