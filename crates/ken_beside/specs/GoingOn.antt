-- A step leaves a worker that may make another, with a slot less at most in each ring that it pushes on.
use Rattle.std.specs.Prelude.{◌≡◌, ◌+◌, ◌*◌, ◌≤◌}
use Rattle.ken_disk.specs.declared.disk.Disk as disk
use Rattle.ken_app.specs.declared.oracle.Oracle as oracle
use Rattle.ken_app.specs.Limits.{KeepsLimits}
use Rattle.ken_model.specs.Handler.{Handler}
use Rattle.ken_net.specs.declared.net.Net as net
use Rattle.ken_links.specs.Rings.{free}
use Rattle.ken_store.specs.Patching.{TakesPatches}
use Rattle.ken_ship.specs.declared.outlet.Outlet as outlet
use Rattle.ken_work.specs.declared.patcher.PatchWorker.{PatchWorker}
use Rattle.ken_work.specs.Workers.{Working}
use Rattle.ken_beside.specs.Seats.{Handling, Sending}
use Rattle.ken_beside.specs.Steps.{HandlerStep, PatcherStep, SenderStep}

module _ {D N O : Type 0} (d : disk.Ghosts D) (e : net.Ghosts N) (o : oracle.Ghosts O) (h : Handler) where
  -- a handler takes a call, but for the slots that it needs
  pub record MayTurn (t : Handling D N O) : Type 0 where
    pub working : Working d.told d.size h t.worker
    pub keeps : KeepsLimits t.worker.nodes (256 * t.worker.side.owner.pages) h
    pub node : e.node t.net ≡ t.worker.node
    pub nodes : e.nodes t.net ≡ t.worker.nodes

  pub record TurnsOn (t t2 : Handling D N O) : Type 0 where
    pub may : MayTurn t2
    pub pages : free t.worker.pages ≤ free t2.worker.pages + 1
    pub sealed : free t.worker.sealed ≤ free t2.worker.sealed + 1

  abbrev pub HandlerGoesOn : Type 0
  HandlerGoesOn = (t t2 : Handling D N O) → HandlerStep d e o h t t2 → MayTurn t → TurnsOn t t2

module _ {D : Type 0} (d : disk.Ghosts D) where
  -- so does a patcher
  pub record PatchesOn (p p2 : PatchWorker D) : Type 0 where
    pub may : TakesPatches d.told d.size p2.side
    pub settled : free p.settled ≤ free p2.settled + 1

  abbrev pub PatcherGoesOn : Type 0
  PatcherGoesOn = (p p2 : PatchWorker D) → PatcherStep d p p2 → TakesPatches d.told d.size p.side → PatchesOn p p2

module _ {N U : Type 0} (e : net.Ghosts N) (u : outlet.Ghosts U) where
  -- and an externaliser
  pub record MaySend (s : Sending N U) : Type 0 where
    pub node : e.node s.net ≡ s.worker.backlog.node
    pub nodes : e.nodes s.net ≡ s.worker.nodes

  pub record SendsOn (s s2 : Sending N U) : Type 0 where
    pub may : MaySend s2
    pub told : free s.worker.told ≤ free s2.worker.told + 1

  abbrev pub SenderGoesOn : Type 0
  SenderGoesOn = (s s2 : Sending N U) → SenderStep e u s s2 → MaySend s → SendsOn s s2
