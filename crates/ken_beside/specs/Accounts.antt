-- What the steps of a worker leave of its devices.
use Rattle.std.specs.Prelude.{◌≡◌, ℕ, ◌+◌, ◌<◌, List, [], ◌∷◌, Option, Result, Ok, Err}
use Rattle.ken_disk.specs.declared.disk.Disk as disk
use Rattle.ken_app.specs.declared.oracle.Oracle as oracle
use Rattle.ken_app.specs.Oracles.{HasAnswered}
use Rattle.ken_model.specs.Handler.{Handler}
use Rattle.ken_net.specs.declared.net.Net as net
use Rattle.ken_record.specs.declared.effects.Effects.{Effects}
use Rattle.ken_store.specs.Apart.{disks_apart}
use Rattle.ken_ship.specs.declared.emit.Emit.{Emit}
use Rattle.ken_ship.specs.declared.emit.Emit.TheVariants.{Done, Refused, Nothing}
use Rattle.ken_ship.specs.declared.faults.NodeFault.{NodeFault}
use Rattle.ken_ship.specs.declared.faults.NodeFault.TheVariants.{Disk, Damaged, Outlet, Memory}
use Rattle.ken_ship.specs.declared.outlet.Outlet as outlet
use Rattle.ken_ship.specs.declared.worker.TheConstants.{MOST_REFUSALS}
use Rattle.ken_ship.specs.Causes.{HasCause}
use Rattle.ken_ship.specs.Emitting.{outlet_answer}
use Rattle.ken_ship.specs.Fates.{Follows, Suffers}
use Rattle.ken_work.specs.declared.patcher.PatchWorker.{PatchWorker}
use Rattle.ken_work.specs.declared.worker.TurnWorker.{TurnWorker}
use Rattle.ken_node.specs.Restarts.{AreUnfailed, OneHasFailed}
use Rattle.ken_work.specs.Calls.{Drew}
use Rattle.ken_weave.specs.Workers.{Steps}
use Rattle.ken_beside.specs.Seats.{Handling}
use Rattle.ken_beside.specs.Steps.{HandlerStep, PatcherFault, PatcherStep}

module _ {O : Type 0} (clocks words : O → Option (List ℕ)) (h : Handler) where
  -- turns were made one after another: what the oracle answered for each is what it drew, and no more than a turn may draw
  pub data DrewEach : O → List Effects → O → Type 0 where
    no_turn : {a : O} → DrewEach a [] a
    one_turn : {a b c : O} {turn : Effects} {turns : List Effects} → Drew clocks words h a b turn.draws → HasAnswered (clocks a) (clocks b) → HasAnswered (words a) (words b)
        → DrewEach b turns c → DrewEach a (turn ∷ turns) c

-- where all calls of the handler and of the patcher ended well, no disk of the node failed
abbrev pub NoDiskFails : {D N O : Type 0} → disk.Ghosts D → net.Ghosts N → oracle.Ghosts O → Type 0
NoDiskFails {D} {N} {O} d e o =
    (h : Handler) (t t2 : Handling D N O) (p p2 : PatchWorker D) (ts : List (Handling D N O)) (ps : List (PatchWorker D)) → Steps (HandlerStep d e o h) t ts t2 → Steps (PatcherStep d) p ps p2
    → AreUnfailed d.told d.faults d.fate (disks_apart t.worker.side p.side) (disks_apart t2.worker.side p2.side)

-- in a call of the patcher that failed one disk did, the image's, and no other
abbrev pub OneDiskFails : {D : Type 0} → disk.Ghosts D → Type 0
OneDiskFails {D} d =
    (t : TurnWorker D) (p p2 : PatchWorker D) → PatcherFault d p p2 → OneHasFailed d.told d.faults d.fate (disks_apart t.side p.side) (disks_apart t.side p2.side)

-- how often the output that is due was refused running, before and after a call, by its answer
abbrev pub RefusesBy : Result Emit NodeFault → ℕ → ℕ → Type 0
RefusesBy (Ok (Done number)) old new = new ≡ 0
RefusesBy (Ok Refused) old new = (old < MOST_REFUSALS) × (new ≡ old + 1)
RefusesBy (Ok Nothing) old new = new ≡ old
RefusesBy (Err Outlet) old new = (old ≡ MOST_REFUSALS) × (new ≡ old)
RefusesBy (Err Memory) old new = ⊥
RefusesBy (Err Disk) old new = ⊥
RefusesBy (Err (Damaged disk place)) old new = ⊥

module _ {U : Type 0} (u : outlet.Ghosts U) where
  -- outputs were emitted or refused one after another, by calls of an outlet
  pub data Refuses : ℕ → U → ℕ → U → Type 0 where
    no_call : {count : ℕ} {a : U} → Refuses count a count a
    one_call : {old mid new : ℕ} {a b c : U} (answer : Result Emit NodeFault) → RefusesBy answer old mid
        → HasCause (u.faults a) (u.faults b) (outlet_answer answer) → Follows (Suffers (outlet_answer answer)) (u.fate a) (u.fate b)
        → Refuses mid b new c → Refuses old a new c
