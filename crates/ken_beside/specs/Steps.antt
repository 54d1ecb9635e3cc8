-- A step of each worker: one of its calls that ended well, of which just the clauses of that call are known.
use Rattle.std.specs.Prelude.{◌≡◌, ◌⊎◌, [], Bool, Result, Ok, Err, IfOk}
use Rattle.std.specs.declared.alloc.AllocError.{AllocError}
use Rattle.ken_disk.specs.declared.disk.Disk as disk
use Rattle.ken_app.specs.declared.oracle.Oracle as oracle
use Rattle.ken_app.specs.Oracles.{HasAnswered}
use Rattle.ken_model.specs.Handler.{Handler}
use Rattle.ken_net.specs.declared.net.Net as net
use Rattle.ken_links.specs.Rings.{popped, nones}
use Rattle.ken_store.specs.declared.faults.StoreFault.TheVariants as store
use Rattle.ken_ship.specs.declared.emit.Emit.{Emit}
use Rattle.ken_ship.specs.declared.faults.NodeFault.{NodeFault}
use Rattle.ken_ship.specs.declared.faults.NodeFault.TheVariants.{Outlet}
use Rattle.ken_ship.specs.declared.outlet.Outlet as outlet
use Rattle.ken_ship.specs.Causes.{HasCause}
use Rattle.ken_ship.specs.Emitting.{Emitted, emitted_of, outlet_answer}
use Rattle.ken_ship.specs.Fates.{Follows, Suffers}
use Rattle.ken_ship.specs.Handing.{CountsTurns, HandedOver}
use Rattle.ken_ship.specs.Outlets.{also_took}
use Rattle.ken_ship.specs.Parts.{IsSameWorker as IsSameSender, SameSlots, part_of}
use Rattle.ken_ship.specs.Sending.{SentDue, all_due}
use Rattle.ken_ship.specs.Taking.{Heard, TellsRisen}
use Rattle.ken_work.specs.declared.patcher.PatchWorker.{PatchWorker}
use Rattle.ken_work.specs.declared.took.Took.{Took}
use Rattle.ken_work.specs.declared.took.Took.TheVariants.{Turn}
use Rattle.ken_work.specs.declared.worker.TurnWorker.{TurnWorker}
use Rattle.ken_work.specs.Calls.{TakesTurn, Drew}
use Rattle.ken_work.specs.Patches.{IsSamePatcher, PatchesOnce, SettlesOnce}
use Rattle.ken_work.specs.Workers.{HearsNews, IsSameWorker}
use Rattle.ken_beside.specs.Seats.{Handling, Sending}

-- the same end of a network
pub record IsSameEnd {N : Type 0} (e : net.Ghosts N) (old new : N) : Type 0 where
  pub node : e.node new ≡ e.node old
  pub nodes : e.nodes new ≡ e.nodes old

module _ {D N O : Type 0} (d : disk.Ghosts D) (e : net.Ghosts N) (o : oracle.Ghosts O) (h : Handler) where
  -- a call of the handler, by its answer
  pub record TurnsOnce (result : Result Took NodeFault) (old new : Handling D N O) : Type 0 where
    pub same : IsSameWorker old.worker new.worker
    pub mid : TurnWorker D
    pub hears : HearsNews old.worker mid
    pub takes : TakesTurn d.told d.size d.faults d.fate h (Drew o.telling.clocks o.telling.words h old.oracle new.oracle) result mid new.worker
        (e.given_between old.net new.net) (e.put_between old.net new.net) (e.nones old.net) (e.nones new.net)
    pub end : IsSameEnd e old.net new.net
    pub clocks_go_on : HasAnswered (o.telling.clocks old.oracle) (o.telling.clocks new.oracle)
    pub words_go_on : HasAnswered (o.telling.words old.oracle) (o.telling.words new.oracle)
    pub origin : o.telling.origin new.oracle ≡ o.telling.origin old.oracle
    pub undrawn : IfOk result (λ took. (took ≡ Turn) ⊎ (new.oracle ≡ old.oracle))

  -- a step of the handler: a call that ended well
  pub data HandlerStep (old new : Handling D N O) : Type 0 where
    turns_once : (took : Took) → TurnsOnce (Ok took) old new → HandlerStep old new

module _ {D : Type 0} (d : disk.Ghosts D) where
  -- a step of the patcher: a page was written, or none was to be; or the image was synced
  pub data PatcherStep (old new : PatchWorker D) : Type 0 where
    patches_once : (more : Bool) → IsSamePatcher old new → PatchesOnce d.told d.size d.faults d.fate (Ok more) old new → PatcherStep old new
    settles_once : IsSamePatcher old new → SettlesOnce d.told d.size d.faults d.fate {T = Unit {0}} (Ok tt) old new → PatcherStep old new

  -- a call of it in which the image's disk failed: after it the patcher makes no other
  pub data PatcherFault (old new : PatchWorker D) : Type 0 where
    patch_fails : IsSamePatcher old new → PatchesOnce d.told d.size d.faults d.fate (Err store.Disk) old new → PatcherFault old new
    sync_fails : IsSamePatcher old new → SettlesOnce d.told d.size d.faults d.fate {T = Unit {0}} (Err store.Disk) old new → PatcherFault old new

  abbrev pub PatcherCall : PatchWorker D → PatchWorker D → Type 0
  PatcherCall old new = PatcherStep old new ⊎ PatcherFault old new

module _ {N U : Type 0} (e : net.Ghosts N) (u : outlet.Ghosts U) where
  -- a call that puts what is due, by its answer
  pub record SendsDue (result : Result (Unit {0}) AllocError) (old new : Sending N U) : Type 0 where
    pub same : IsSameSender old.worker new.worker
    pub told : new.worker.told ≡ old.worker.told
    pub handed : HandedOver result old.worker.backlog.node (popped old.worker.sealed) (popped new.worker.sealed)
        (nones old.worker.sealed) (nones new.worker.sealed) (part_of old.worker).due (part_of new.worker).due
    pub number : CountsTurns (popped old.worker.sealed) (popped new.worker.sealed) (part_of old.worker).handed (part_of new.worker).handed
    pub part : part_of new.worker ≡ record (part_of old.worker) { due = (part_of new.worker).due; handed = (part_of new.worker).handed }
    pub put : SentDue result (e.put_between old.net new.net) (all_due old.worker.nodes (part_of new.worker).due.lines)
    pub given : e.given_between old.net new.net []
    pub end : IsSameEnd e old.net new.net
    pub none_more : e.nones new.net ≡ e.nones old.net
    pub outlet : new.outlet ≡ old.outlet

  -- one that takes acknowledgements, and ended well
  pub record TakesAcks (old new : Sending N U) : Type 0 where
    pub same : IsSameSender old.worker new.worker
    pub sealed : new.worker.sealed ≡ old.worker.sealed
    pub heard : Heard old.worker.backlog.node old.worker.nodes (e.given_between old.net new.net) (e.nones old.net) (e.nones new.net) (part_of old.worker).due (part_of new.worker).due
    pub part : part_of new.worker ≡ record (part_of old.worker) { due = (part_of new.worker).due; told = (part_of new.worker).told }
    pub tells : TellsRisen (part_of old.worker) (part_of new.worker)
    pub slots : SameSlots old.worker.told new.worker.told
    pub end : IsSameEnd e old.net new.net
    pub put : e.put_between old.net new.net []
    pub outlet : new.outlet ≡ old.outlet

  -- one that emits the output that is due, by its answer
  pub record EmitsOnce (result : Result Emit NodeFault) (old new : Sending N U) : Type 0 where
    pub same : IsSameSender old.worker new.worker
    pub sealed : new.worker.sealed ≡ old.worker.sealed
    pub part : Emitted old.worker.backlog.node result (part_of old.worker) (part_of new.worker)
    pub slots : SameSlots old.worker.told new.worker.told
    pub took : u.took new.outlet ≡ also_took (emitted_of result (part_of old.worker).due.outs) (u.took old.outlet)
    pub cause : HasCause (u.faults old.outlet) (u.faults new.outlet) (outlet_answer result)
    pub fate : Follows (Suffers (outlet_answer result)) (u.fate old.outlet) (u.fate new.outlet)
    pub net : new.net ≡ old.net

  -- a step of the externaliser
  pub data SenderStep (old new : Sending N U) : Type 0 where
    sends_due : SendsDue (Ok tt) old new → SenderStep old new
    takes_acks : TakesAcks old new → SenderStep old new
    emits_once : (answer : Emit) → EmitsOnce (Ok answer) old new → SenderStep old new

  -- or a call in which its outlet refused an output once too often: after it the externaliser makes no other
  abbrev pub SenderCall : Sending N U → Sending N U → Type 0
  SenderCall old new = SenderStep old new ⊎ EmitsOnce (Err Outlet) old new
