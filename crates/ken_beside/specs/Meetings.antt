-- Steps of a node's three workers, and the meeting after them: the node is in its place again, with its accounts.
use Rattle.std.specs.Prelude.{◌≡◌, ℕ, List, ◌++◌, Err, false}
use Rattle.ken_disk.specs.declared.disk.Disk as disk
use Rattle.ken_app.specs.declared.oracle.Oracle as oracle
use Rattle.ken_model.specs.Game.{Game}
use Rattle.ken_model.specs.Handler.{Handler}
use Rattle.ken_net.specs.declared.net.Net as net
use Rattle.ken_core.specs.Clusters.{emissions_by}
use Rattle.ken_core.specs.Nodes.{Node}
use Rattle.ken_store.specs.Apart.{disks_apart}
use Rattle.ken_ship.specs.declared.faults.NodeFault.TheVariants.{Disk}
use Rattle.ken_ship.specs.declared.outlet.Outlet as outlet
use Rattle.ken_ship.specs.declared.worker.SendWorker.{SendWorker}
use Rattle.ken_ship.specs.Laws.{packets_from}
use Rattle.ken_ship.specs.Parts.{part_of, IsSameWorker as IsSameSender}
use Rattle.ken_work.specs.declared.patcher.PatchWorker.{PatchWorker}
use Rattle.ken_work.specs.declared.worker.TurnWorker.{TurnWorker}
use Rattle.ken_work.specs.Meeting.{AreEmpty, AreJoined, HaveMet}
use Rattle.ken_node.specs.declared.stage.Stage.TheVariants.{Created}
use Rattle.ken_node.specs.Down.{IsDown}
use Rattle.ken_node.specs.Synced.{LeavesSynced}
use Rattle.ken_node.specs.Up.{IsUp}
use Rattle.ken_weave.specs.Workers.{Steps}
use Rattle.ken_beside.specs.Accounts.{Refuses}
use Rattle.ken_beside.specs.Beside.{RanBeside}
use Rattle.ken_beside.specs.Failing.{FailsBeside}
use Rattle.ken_beside.specs.On.{IsOn}
use Rattle.ken_beside.specs.Seats.{Handling, Sending}
use Rattle.ken_beside.specs.Steps.{HandlerStep, PatcherCall, SenderCall, TurnsOnce}

-- a meeting of a node's workers that emptied their rings
pub record HaveEmptied {D : Type 0} (d : disk.Ghosts D) (t t2 : TurnWorker D) (p p2 : PatchWorker D) (s s2 : SendWorker) : Type 0 where
  pub met : HaveMet d.told d.size t t2 p p2 s s2
  pub same : IsSameSender s s2
  pub joined : AreJoined t2 p2 s2
  pub empty : AreEmpty t2 p2 s2

module _ {D N O U : Type 0} (d : disk.Ghosts D) (e : net.Ghosts N) (o : oracle.Ghosts O) (u : outlet.Ghosts U) where
  -- the accounts of node v over such steps and the meeting: what it emitted is what the steps did, its refusals are those of the outlet's calls, and
  -- its logs were synced as often as its turns take
  pub record HasAccounts (g : Game) (v : ℕ) (t : Handling D N O) (p : PatchWorker D) (s s2 : Sending N U) (t3 : TurnWorker D) (p3 : PatchWorker D) (s3 : SendWorker) : Type 0 where
    pub emissions : (part_of s3).emissions ≡ (part_of s2.worker).emissions
    pub refusals : Refuses u (part_of s.worker).refusals s.outlet (part_of s3).refusals s2.outlet
    pub synced : LeavesSynced d.told d.faults g v (disks_apart t.worker.side p.side) → LeavesSynced d.told d.faults g v (disks_apart t3.side p3.side)

  -- all steps ended well, or the patcher or the externaliser stopped at a fault: the node stands where their events lead
  -- to, and is up there where no call of its image's disk failed
  pub record IsUpAfter (g : Game) (v : ℕ) (n : Node) (t t2 : Handling D N O) (p p2 : PatchWorker D) (s s2 : Sending N U) (t3 : TurnWorker D) (p3 : PatchWorker D) (s3 : SendWorker) : Type 0 where
    pub ran : RanBeside d e o u g v n t t2 p p2 s s2
    pub on : IsOn d.told d.size g v ran.after t3 p3 s3
    pub up : p2.side.image.spent ≡ false → IsUp d.told d.size g v ran.after (Created t3 p3 s3)
    pub accounts : HasAccounts g v t p s s2 t3 p3 s3

  abbrev pub StepsAndMeeting : Type 0
  StepsAndMeeting =
      (g : Game) (v : ℕ) (n : Node) (t t2 : Handling D N O) (p p2 : PatchWorker D) (s s2 : Sending N U) (ts : List (Handling D N O)) (ps : List (PatchWorker D)) (ss : List (Sending N U))
      (t3 : TurnWorker D) (p3 : PatchWorker D) (s3 : SendWorker)
      → IsOn d.told d.size g v n t.worker p s.worker → Steps (HandlerStep d e o g.handler) t ts t2 → Steps (PatcherCall d) p ps p2 → Steps (SenderCall e u) s ss s2
      → HaveEmptied d t2.worker t3 p2 p3 s2.worker s3 → IsUpAfter g v n t t2 p p2 s s2 t3 p3 s3

  -- the handler's last call failed: the node went down there
  pub record IsDownAfter (g : Game) (v : ℕ) (n : Node) (t t2 t3 : Handling D N O) (p p2 : PatchWorker D) (s s2 : Sending N U) (t4 : TurnWorker D) (p4 : PatchWorker D) (s4 : SendWorker) : Type 0 where
    pub failed : FailsBeside d e o u g v n t t2 t3 p p2 s s2
    pub down : IsDown d.told g v (packets_from g.nodes failed.gave) failed.after failed.doubt (Created t4 p4 s4)
    pub accounts : HasAccounts g v t p s s2 t4 p4 s4

  abbrev pub FailureAndMeeting : Type 0
  FailureAndMeeting =
      (g : Game) (v : ℕ) (n : Node) (t t2 t3 : Handling D N O) (p p2 : PatchWorker D) (s s2 : Sending N U) (ts : List (Handling D N O)) (ps : List (PatchWorker D)) (ss : List (Sending N U))
      (t4 : TurnWorker D) (p4 : PatchWorker D) (s4 : SendWorker)
      → IsOn d.told d.size g v n t.worker p s.worker
      → Steps (HandlerStep d e o g.handler) t ts t2 → TurnsOnce d e o g.handler (Err Disk) t2 t3 → Steps (PatcherCall d) p ps p2 → Steps (SenderCall e u) s ss s2
      → HaveEmptied d t3.worker t4 p2 p4 s2.worker s4 → IsDownAfter g v n t t2 t3 p p2 s s2 t4 p4 s4

  -- ---- one call, as the drain makes them

  -- one worker made a call, and the two others none
  pub data OneCall (h : Handler) : (t t2 : Handling D N O) (p p2 : PatchWorker D) (s s2 : Sending N U) → Type 0 where
    by_handler : {t t2 : Handling D N O} {p : PatchWorker D} {s : Sending N U} → HandlerStep d e o h t t2 → OneCall h t t2 p p s s
    by_patcher : {t : Handling D N O} {p p2 : PatchWorker D} {s : Sending N U} → PatcherCall d p p2 → OneCall h t t p p2 s s
    by_sender : {t : Handling D N O} {p : PatchWorker D} {s s2 : Sending N U} → SenderCall e u s s2 → OneCall h t t p p s s2

  -- a node that is up stands after a call and a meeting, and is up again where no call of its image's disk failed
  abbrev pub CallAndMeeting : Type 0
  CallAndMeeting =
      (g : Game) (v : ℕ) (n : Node) (t t2 : Handling D N O) (p p2 : PatchWorker D) (s s2 : Sending N U) (t3 : TurnWorker D) (p3 : PatchWorker D) (s3 : SendWorker)
      → IsUp d.told d.size g v n (Created t.worker p s.worker) → OneCall g.handler t t2 p p2 s s2
      → HaveEmptied d t2.worker t3 p2 p3 s2.worker s3 → IsUpAfter g v n t t2 p p2 s s2 t3 p3 s3

  -- and goes down at one of the handler that failed
  abbrev pub FailedCallAndMeeting : Type 0
  FailedCallAndMeeting =
      (g : Game) (v : ℕ) (n : Node) (t t2 : Handling D N O) (p : PatchWorker D) (s : Sending N U) (t3 : TurnWorker D) (p3 : PatchWorker D) (s3 : SendWorker)
      → IsUp d.told d.size g v n (Created t.worker p s.worker) → TurnsOnce d e o g.handler (Err Disk) t t2
      → HaveEmptied d t2.worker t3 p p3 s.worker s3 → IsDownAfter g v n t t t2 p p s s t3 p3 s3
