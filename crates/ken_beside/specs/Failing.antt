-- A handler whose last call failed: it comes after all that the other two made.
use Rattle.std.specs.Prelude.{◌≡◌, ℕ, List, [], ◌++◌, Err}
use Rattle.std.specs.List.{AllByRecursion, Contains}
use Rattle.ken_disk.specs.declared.disk.Disk as disk
use Rattle.ken_app.specs.declared.oracle.Oracle as oracle
use Rattle.ken_model.specs.Game.{Game}
use Rattle.ken_net.specs.declared.net.Net as net
use Rattle.ken_core.specs.declared.events.Event.{Event}
use Rattle.ken_core.specs.Calls.{Doubt, no_doubt, seal, turnover}
use Rattle.ken_core.specs.Nodes.{Node}
use Rattle.ken_core.specs.Packets.{Outgoing, one_after_other}
use Rattle.ken_core.specs.Runs.{NodeRun}
use Rattle.ken_store.specs.Apart.{disks_apart}
use Rattle.ken_ship.specs.declared.faults.NodeFault.TheVariants.{Disk}
use Rattle.ken_ship.specs.declared.outlet.Outlet as outlet
use Rattle.ken_ship.specs.Laws.{packets_from}
use Rattle.ken_work.specs.declared.patcher.PatchWorker.{PatchWorker}
use Rattle.ken_node.specs.declared.stage.Stage.TheVariants.{Created}
use Rattle.ken_node.specs.Down.{IsDown}
use Rattle.ken_work.specs.Meeting.{AreFronts}
use Rattle.ken_node.specs.Restarts.{OneHasFailed}
use Rattle.ken_node.specs.Synced.{LeavesSynced}
use Rattle.ken_work.specs.Calls.{Drew}
use Rattle.ken_weave.specs.Workers.{Steps}
use Rattle.ken_beside.specs.Beside.{RanBeside}
use Rattle.ken_beside.specs.Calm.{IsCalm}
use Rattle.ken_beside.specs.On.{IsOn}
use Rattle.ken_beside.specs.Puts.{AreOf, IsAnswer, WerePut}
use Rattle.ken_beside.specs.Seats.{Handling, Sending}
use Rattle.ken_beside.specs.Steps.{HandlerStep, PatcherCall, SenderCall, TurnsOnce}

-- a turnover is in doubt, or the seal of a turn that drew this
abbrev pub IsInDoubt : (List ℕ → Type 0) → Doubt → Type 0
IsInDoubt drew no_doubt = ⊥
IsInDoubt drew (seal from draws pages) = drew draws
IsInDoubt drew (turnover told) = Unit {0}

module _ {D N O U : Type 0} (d : disk.Ghosts D) (e : net.Ghosts N) (o : oracle.Ghosts O) (u : outlet.Ghosts U) where
  -- the node came to another by the steps, and to one more by what the last call did before it failed; that one went down, with a turnover
  -- or a seal in doubt
  pub record FailsBeside (g : Game) (v : ℕ) (n : Node) (t t2 t3 : Handling D N O) (p p2 : PatchWorker D) (s s2 : Sending N U) : Type 0 where
    pub ran : RanBeside d e o u g v n t t2 p p2 s s2
    pub gave : List (List ℕ)
    pub given : e.given_between t2.net t3.net gave
    pub events : List Event
    pub out : Outgoing
    pub after : Node
    pub run : NodeRun g (Contains (packets_from g.nodes gave)) v ran.after events out after
    pub calm : AllByRecursion IsCalm events
    pub turns : after.turning.turns ≡ ran.after.turning.turns
    pub puts : WerePut g.nodes (e.put_between t2.net t3.net) out.puts
    pub acks : AreOf IsAnswer out.puts
    pub outs : out.outs ≡ []
    -- the two runs, as one over all that was given
    pub all_run : NodeRun g (Contains (packets_from g.nodes ((ran.handler_gave ++ gave) ++ ran.sender_gave))) v n (ran.events ++ events) (one_after_other ran.out out) after
    pub doubt : Doubt
    pub drew : IsInDoubt (Drew o.telling.clocks o.telling.words g.handler t2.oracle t3.oracle) doubt
    pub down : IsDown d.told g v (packets_from g.nodes gave) after doubt (Created t3.worker p2 s2.worker)
    -- one of its disks failed at that call, and its logs were synced as often as they were to be
    pub failed : OneHasFailed d.told d.faults d.fate (disks_apart t2.worker.side p2.side) (disks_apart t3.worker.side p2.side)
    pub synced : LeavesSynced d.told d.faults g v (disks_apart t.worker.side p.side) → LeavesSynced d.told d.faults g v (disks_apart t3.worker.side p2.side)

  abbrev pub FailureBeside : Type 0
  FailureBeside =
      (g : Game) (v : ℕ) (n : Node) (t t2 t3 : Handling D N O) (p p2 : PatchWorker D) (s s2 : Sending N U) (ts : List (Handling D N O)) (ps : List (PatchWorker D)) (ss : List (Sending N U))
      → IsOn d.told d.size g v n t.worker p s.worker
      → Steps (HandlerStep d e o g.handler) t ts t2 → TurnsOnce d e o g.handler (Err Disk) t2 t3 → Steps (PatcherCall d) p ps p2 → Steps (SenderCall e u) s ss s2
      → AreFronts t3.worker p2 s2.worker → FailsBeside g v n t t2 t3 p p2 s s2
