-- Where a worker stops at its seat.
use Rattle.std.proofs.Common.{Bool, false, Ok, Err}
use Rattle.ken_disk.specs.declared.disk.Disk as disk
use Rattle.ken_net.specs.declared.net.Net as net
use Rattle.ken_ship.specs.declared.faults.NodeFault.{NodeFault}
use Rattle.ken_ship.specs.declared.faults.NodeFault.TheVariants.{Disk, Damaged, Outlet, Memory}
use Rattle.ken_ship.specs.declared.outlet.Outlet as outlet
use Rattle.ken_work.specs.declared.patcher.PatchWorker.{PatchWorker}
use Rattle.ken_work.specs.Faults.{IsFaultOfWorker, store_answer}
use Rattle.ken_beside.specs.Seats.{Sending}
use Rattle.ken_beside.specs.Steps.{EmitsOnce}
use Rattle.ken_threads.specs.Seats.{at_output, at_page, at_sync, Patches, PatcherFails, SenderFails, Settles, Ships}

module _ {D : Type 0} (d : disk.Ghosts D) where
  -- at its first call, or at the second
  pub page_stops : (fault : NodeFault) (old new : PatchWorker D) → IsFaultOfWorker {T = Bool} (Err fault) → Patches d (store_answer {T = Bool} (Err fault)) old new → PatcherFails d fault old new
  page_stops Disk old new sound is = at_page is
  page_stops Memory old new sound is = at_page is
  page_stops Outlet old new sound is = absurd sound
  page_stops (Damaged disk place) old new sound is = absurd sound

  pub sync_stops : (fault : NodeFault) (old mid new : PatchWorker D) → Patches d (Ok false) old mid → IsFaultOfWorker {T = Unit {0}} (Err fault) → Settles d (store_answer {T = Unit {0}} (Err fault)) mid new → PatcherFails d fault old new
  sync_stops Disk old mid new one sound is = at_sync mid one is
  sync_stops Memory old mid new one sound is = at_sync mid one is
  sync_stops Outlet old mid new one sound is = absurd sound
  sync_stops (Damaged disk place) old mid new one sound is = absurd sound

module _ {N U : Type 0} (e : net.Ghosts N) (u : outlet.Ghosts U) where
  -- at its third
  pub emit_stops : (fault : NodeFault) (old heard new : Sending N U) → Ships e u old heard → EmitsOnce e u (Err fault) heard new → SenderFails e u fault old new
  emit_stops Disk old heard new ships is = absurd is.part
  emit_stops Memory old heard new ships is = at_output heard ships is
  emit_stops Outlet old heard new ships is = record { heard = heard; ships = ships; refused = is }
  emit_stops (Damaged disk place) old heard new ships is = absurd is.part
