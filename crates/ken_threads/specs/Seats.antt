-- The steps of a node's workers at their seats, as calls of each.
use Rattle.std.specs.Prelude.{◌≡◌, ℕ, ◌≤◌, ◌*◌, Bool, true, false, Result, Ok, Err}
use Rattle.std.specs.declared.alloc.AllocError.{AllocError}
use Rattle.ken_disk.specs.declared.disk.Disk as disk
use Rattle.ken_app.specs.declared.oracle.Oracle as oracle
use Rattle.ken_model.specs.Handler.{Handler}
use Rattle.ken_net.specs.declared.net.Net as net
use Rattle.ken_links.specs.Rings.{free}
use Rattle.ken_store.specs.declared.faults.StoreFault.{StoreFault}
use Rattle.ken_store.specs.declared.faults.StoreFault.TheVariants as store
use Rattle.ken_store.specs.Patching.{TakesPatches}
use Rattle.ken_ship.specs.declared.emit.Emit.{Emit}
use Rattle.ken_ship.specs.declared.faults.NodeFault.{NodeFault}
use Rattle.ken_ship.specs.declared.faults.NodeFault.TheVariants.{Disk, Damaged, Outlet, Memory}
use Rattle.ken_ship.specs.declared.outlet.Outlet as outlet
use Rattle.ken_ship.specs.Parts.{IsSameWorker as IsSameSender, SameSlots, part_of}
use Rattle.ken_work.specs.declared.patcher.PatchWorker.{PatchWorker}
use Rattle.ken_work.specs.Patches.{IsSamePatcher, PatchesOnce, SettlesOnce}
use Rattle.ken_beside.specs.GoingOn.{MaySend, MayTurn}
use Rattle.ken_beside.specs.Seats.{Handling, Sending}
use Rattle.ken_beside.specs.Steps.{EmitsOnce, SendsDue, TakesAcks, TurnsOnce}
use Rattle.ken_threads.specs.declared.seats.HandlerSeat.{HandlerSeat}
use Rattle.ken_threads.specs.declared.seats.SenderSeat.{SenderSeat}

-- the worker of a seat, with what it works on
abbrev pub handling_of : {D N O A : Type 0} → HandlerSeat D N O A → Handling D N O
handling_of s = record { worker = s.worker; net = s.net; oracle = s.oracle }

abbrev pub sending_of : {N U : Type 0} → SenderSeat N U → Sending N U
sending_of s = record { worker = s.worker; net = s.net; outlet = s.outlet }

module _ {D N O : Type 0} (d : disk.Ghosts D) (e : net.Ghosts N) (o : oracle.Ghosts O) (h : Handler) where
  -- a handler may make so many steps: each needs a slot in each of its two rings
  pub record MayHandle (count : ℕ) (t : Handling D N O) : Type 0 where
    pub may : MayTurn d e o h t
    pub pages : count ≤ free t.worker.pages
    pub sealed : count ≤ free t.worker.sealed

  -- its step is a call, and so is one that fails
  abbrev pub HandlerFails : NodeFault → Handling D N O → Handling D N O → Type 0
  HandlerFails fault old new = TurnsOnce d e o h (Err fault) old new

module _ {D : Type 0} (d : disk.Ghosts D) where
  -- a patcher may: each needs a slot of its ring
  pub record MayPatch (count : ℕ) (p : PatchWorker D) : Type 0 where
    pub may : TakesPatches d.told d.size p.side
    pub settled : count ≤ free p.settled

  -- a call of it that writes a page where one is to be written, and one that syncs the image, by their answers
  pub record Patches (answer : Result Bool StoreFault) (old new : PatchWorker D) : Type 0 where
    pub same : IsSamePatcher old new
    pub patches : PatchesOnce d.told d.size d.faults d.fate answer old new

  pub record Settles (answer : Result (Unit {0}) StoreFault) (old new : PatchWorker D) : Type 0 where
    pub same : IsSamePatcher old new
    pub settles : SettlesOnce d.told d.size d.faults d.fate answer old new

  -- its step: a page was written; or none was to be, and the image was synced
  pub data PatcherSteps (old new : PatchWorker D) : Type 0 where
    wrote : Patches (Ok true) old new → PatcherSteps old new
    synced : (mid : PatchWorker D) → Patches (Ok false) old mid → Settles (Ok tt) mid new → PatcherSteps old new

  -- one that fails does so at the page, or at the sync
  pub data PatcherStops (fault : StoreFault) (old new : PatchWorker D) : Type 0 where
    at_page : Patches (Err fault) old new → PatcherStops fault old new
    at_sync : (mid : PatchWorker D) → Patches (Ok false) old mid → Settles (Err fault) mid new → PatcherStops fault old new

  abbrev pub PatcherFails : NodeFault → PatchWorker D → PatchWorker D → Type 0
  PatcherFails Disk old new = PatcherStops store.Disk old new
  PatcherFails Memory old new = PatcherStops store.Memory old new
  PatcherFails Outlet old new = ⊥
  PatcherFails (Damaged disk place) old new = ⊥

module _ {N U : Type 0} (e : net.Ghosts N) (u : outlet.Ghosts U) where
  -- an externaliser may: two of the three calls of each step need a slot of its ring
  pub record MayShip (count : ℕ) (s : Sending N U) : Type 0 where
    pub may : MaySend e u s
    pub told : 3 * count ≤ free s.worker.told

  -- what is due was sent, and then acknowledgements were taken
  pub record Ships (old new : Sending N U) : Type 0 where
    pub sent : Sending N U
    pub sends : SendsDue e u (Ok tt) old sent
    pub takes : TakesAcks e u sent new

  -- its step: after that an output was emitted, or refused, or none was due
  pub record SenderSteps (old new : Sending N U) : Type 0 where
    pub heard : Sending N U
    pub ships : Ships old heard
    pub answer : Emit
    pub emits : EmitsOnce e u (Ok answer) heard new

  -- a call that takes acknowledgements, and wants memory: nothing has changed
  pub record TakesNone (old new : Sending N U) : Type 0 where
    pub same : IsSameSender old.worker new.worker
    pub sealed : new.worker.sealed ≡ old.worker.sealed
    pub part : part_of new.worker ≡ part_of old.worker
    pub slots : SameSlots old.worker.told new.worker.told
    pub net : new.net ≡ old.net
    pub outlet : new.outlet ≡ old.outlet

  -- a step may want memory at each of its calls
  pub data SenderStops (old new : Sending N U) : Type 0 where
    at_sending : (fault : AllocError) → SendsDue e u (Err fault) old new → SenderStops old new
    at_hearing : (sent : Sending N U) → SendsDue e u (Ok tt) old sent → TakesNone sent new → SenderStops old new
    at_output : (heard : Sending N U) → Ships old heard → EmitsOnce e u (Err Memory) heard new → SenderStops old new

  -- or the outlet refuses an output once too often
  pub record SenderRefused (old new : Sending N U) : Type 0 where
    pub heard : Sending N U
    pub ships : Ships old heard
    pub refused : EmitsOnce e u (Err Outlet) heard new

  abbrev pub SenderFails : NodeFault → Sending N U → Sending N U → Type 0
  SenderFails Disk old new = ⊥
  SenderFails Memory old new = SenderStops old new
  SenderFails Outlet old new = SenderRefused old new
  SenderFails (Damaged disk place) old new = ⊥
