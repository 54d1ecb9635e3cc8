-- What an emission makes of an externaliser and of its outlet.
use Rattle.std.specs.Prelude.{◌≡◌, ◌≢◌, ℕ, ◌+◌, ◌<◌, List, [], ◌∷◌, ◌++◌, take, Result, Ok, Err}
use Rattle.ken_model.specs.declared.messages.Out.{Out}
use Rattle.ken_ship.specs.declared.faults.OutFault.{OutFault}
use Rattle.ken_ship.specs.declared.faults.OutFault.TheVariants.{Failed, Memory as NoMemory}
use Rattle.ken_ship.specs.declared.faults.NodeFault.{NodeFault}
use Rattle.ken_ship.specs.declared.faults.NodeFault.TheVariants.{Disk, Damaged, Outlet, Memory}
use Rattle.ken_ship.specs.declared.worker.TheConstants.{MOST_REFUSALS}
use Rattle.ken_ship.specs.declared.emit.Emit.{Emit}
use Rattle.ken_ship.specs.declared.emit.Emit.TheVariants.{Done, Refused, Nothing}
use Rattle.ken_ship.specs.Handing.{told_in}
use Rattle.ken_ship.specs.Parts.{Part}

-- the oldest output was emitted, and the others wait; the handler is told so
abbrev pub after_emission : ℕ → Out → List Out → Part → Part
after_emission v out rest p = record {
  due = record p.due { emitted = out.number; outs = rest };
  emissions = p.emissions ++ record { node = v; out = out } ∷ [];
  refusals = 0;
  told = p.told ++ told_in p.handed (record p.due { emitted = out.number; outs = rest }) ∷ [];
  handed = p.handed;
}

-- the part before and after a call of node v's externaliser, by its answer
abbrev pub Emitted : ℕ → Result Emit NodeFault → Part → Part → Type 0
Emitted v (Ok (Done number)) old new = (out : Out) × ((rest : List Out) × ((old.due.outs ≡ out ∷ rest) × (out.number ≡ number) × (new ≡ after_emission v out rest old)))
Emitted v (Ok Refused) old new = (old.due.outs ≢ []) × (old.refusals < MOST_REFUSALS) × (new ≡ record old { refusals = old.refusals + 1 })
Emitted v (Ok Nothing) old new = (old.due.outs ≡ []) × (new ≡ old)
Emitted v (Err Outlet) old new = (old.due.outs ≢ []) × (old.refusals ≡ MOST_REFUSALS) × (new ≡ old)
Emitted v (Err Memory) old new = new ≡ old
Emitted v (Err Disk) old new = ⊥
Emitted v (Err (Damaged disk place)) old new = ⊥

-- what the outlet answered; one that wasn't called is as after want of memory
abbrev pub outlet_answer : Result Emit NodeFault → Result (Unit {0}) OutFault
outlet_answer (Ok (Done number)) = Ok tt
outlet_answer (Ok Refused) = Err Failed
outlet_answer (Ok Nothing) = Err NoMemory
outlet_answer (Err Outlet) = Err Failed
outlet_answer (Err Memory) = Err NoMemory
outlet_answer (Err Disk) = Err NoMemory
outlet_answer (Err (Damaged disk place)) = Err NoMemory

-- which of the outputs that waited was emitted
abbrev pub emitted_of : Result Emit NodeFault → List Out → List Out
emitted_of (Ok (Done number)) outs = take 1 outs
emitted_of _ outs = []
