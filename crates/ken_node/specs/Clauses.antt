-- What calls of a node say alike, by its stages before and after them, over all that contracts see of its devices.
use Rattle.std.specs.Prelude.{◌≡◌, ℕ, List, Bool, Result, IfOk, OnOk, OnErr}
use Rattle.ken_disk.specs.declared.disk.Disk as disk
use Rattle.ken_disk.specs.Fates.{Fate}
use Rattle.ken_disk.specs.Story.{Story}
use Rattle.std.specs.declared.option.Option.{Option}
use Rattle.ken_app.specs.declared.oracle.Oracle as oracle
use Rattle.ken_model.specs.declared.messages.Out.{Out}
use Rattle.ken_model.specs.Game.{Game}
use Rattle.ken_model.specs.Handler.{Handler}
use Rattle.ken_net.specs.declared.net.Net as net
use Rattle.ken_core.specs.Calls.{Doubt}
use Rattle.ken_core.specs.Nodes.{Node}
use Rattle.ken_core.specs.Packets.{Packet}
use Rattle.ken_store.specs.declared.disks.Disks.{Disks}
use Rattle.ken_ship.specs.declared.emit.Emit.{Emit}
use Rattle.ken_ship.specs.declared.faults.NodeFault.{NodeFault}
use Rattle.ken_ship.specs.declared.outlet.Outlet as outlet
use Rattle.ken_ship.specs.Outlets.{also_took}
use Rattle.ken_node.specs.declared.stage.Stage.{Stage}
use Rattle.ken_work.specs.declared.took.Took.{Took}
use Rattle.ken_node.specs.declared.watched.Watched.{Watched}
use Rattle.ken_node.specs.Down.{IsDown}
use Rattle.ken_node.specs.NodeCalls.{DisksFailBy, EmitStepsBy, HearSteps, PatchStepsBy, SendSteps, SettleStepsBy, UnlessMemory}
use Rattle.ken_node.specs.NodeTurns.{TurnStepsBy}
use Rattle.ken_node.specs.Restarts.{IsUpAgain, RestartsBy, pick_of}
use Rattle.ken_node.specs.Stages.{HasDisks, disk_owner}
use Rattle.ken_node.specs.Synced.{IsSynced, LeavesSynced}
use Rattle.ken_work.specs.Calls.{Drew}
use Rattle.ken_node.specs.Up.{IsUp}

-- ---- calls of a node that was up, whichever of a run it was, by their answers

module _ {D : Type 0} (d : disk.Ghosts D) where
  -- a page is written to its image, and the image is synced
  abbrev pub PatchesAs : Stage D → Result Bool NodeFault → Stage D → Type 0
  PatchesAs old result new = (g : Game) (v : ℕ) (n : Node) → IsUp d.told d.size g v n old → PatchStepsBy d.told d.size result g v n new

  abbrev pub SettlesAs : Stage D → Result (Unit {0}) NodeFault → Stage D → Type 0
  SettlesAs old result new = (g : Game) (v : ℕ) (n : Node) → IsUp d.told d.size g v n old → SettleStepsBy d.told d.size result g v n new

  -- what became of its disks
  abbrev pub FailsDisks : {T : Type 0} → Stage D → Result T NodeFault → Stage D → Type 0
  FailsDisks old result new = (before after : Disks D) → HasDisks before old → HasDisks after new → DisksFailBy d.told d.faults d.fate result before after

  -- its logs were synced as often as its turns take, and still are; after a turn with that handler too
  abbrev pub StaysSynced : Stage D → Stage D → Type 0
  StaysSynced old new = (g : Game) (v : ℕ) → IsSynced d.told d.faults g v old → IsSynced d.told d.faults g v new

  abbrev pub SyncsTurn : Handler → Stage D → Result Took NodeFault → Stage D → Type 0
  SyncsTurn h old result new = (g : Game) (v : ℕ) (n : Node) → IsUp d.told d.size g v n old → h ≡ g.handler → IsSynced d.told d.faults g v old → UnlessMemory result (IsSynced d.told d.faults g v new)

  -- the same of disks that a stage has
  abbrev pub SyncsDisks : Handler → Stage D → Disks D → Result Took NodeFault → Disks D → Type 0
  SyncsDisks h old before result after = (g : Game) (v : ℕ) (n : Node) → IsUp d.told d.size g v n old → h ≡ g.handler → LeavesSynced d.told d.faults g v before → UnlessMemory result (LeavesSynced d.told d.faults g v after)

module _ {D N : Type 0} (d : disk.Ghosts D) (e : net.Ghosts N) where
  -- what is due is put into an end of its net, and acknowledgements are taken from one
  abbrev pub SendsAs : {E : Type 0} → Stage D → N → Result (Unit {0}) E → Stage D → N → Type 0
  SendsAs old end result new end2 = (g : Game) (v : ℕ) (n : Node) → IsUp d.told d.size g v n old → OnOk result (SendSteps d.told d.size g v n (e.put_between end end2) new)

  abbrev pub HearsAs : {E : Type 0} → Stage D → N → Result (Unit {0}) E → Stage D → N → Type 0
  HearsAs old end result new end2 = (g : Game) (v : ℕ) (n : Node) → IsUp d.told d.size g v n old → OnOk result (HearSteps d.told d.size g v n (e.given_between end end2) (e.nones end) (e.nones end2) new)

  -- a turn is made with a handler
  module _ {O : Type 0} (o : oracle.Ghosts O) where
    abbrev pub TurnsAs : Handler → Stage D → N → O → Result Took NodeFault → Stage D → N → O → Type 0
    TurnsAs h old end luck result new end2 luck2 =
        (g : Game) (v : ℕ) (n : Node) → (up : IsUp d.told d.size g v n old) → h ≡ g.handler
        → TurnStepsBy d.told d.size g v n (e.given_between end end2) (e.put_between end end2) result (Drew o.telling.clocks o.telling.words h luck luck2) (e.nones end) (e.nones end2) up.handler new

module _ {D U : Type 0} (d : disk.Ghosts D) (u : outlet.Ghosts U) where
  -- the output that is due is emitted
  abbrev pub EmitsAs : Stage D → U → Result Emit NodeFault → Stage D → U → Type 0
  EmitsAs old out result new out2 = (g : Game) (v : ℕ) (n : Node) → IsUp d.told d.size g v n old → EmitStepsBy d.told d.size result g v n (λ (taken : List Out). u.took out2 ≡ also_took taken (u.took out)) old new

-- ---- a restart

module _ {D : Type 0} (told : D → Option Story) where
  -- after Ok it is up again, and after an error it may be restarted still, with the same in doubt
  abbrev pub ComesUp : (D → ℕ) → Stage D → Result ℕ NodeFault → Stage D → Type 0
  ComesUp size old result new =
      (g : Game) (v : ℕ) (given : List Packet) (n : Node) (doubt : Doubt) → IsDown told g v given n doubt old → IfOk result (λ turns. IsUpAgain told size g v given n doubt turns new)

  abbrev pub StaysDown : {T : Type 0} → Stage D → Result T NodeFault → Stage D → Type 0
  StaysDown old result new = (g : Game) (v : ℕ) (given : List Packet) (n : Node) (doubt : Doubt) → IsDown told g v given n doubt old → OnErr result (IsDown told g v given n doubt new)

  -- its logs were synced as often as its turns take, and still are
  abbrev pub KeepsSynced : (D → ℕ) → Stage D → Stage D → Type 0
  KeepsSynced faults old new = (g : Game) (v : ℕ) (given : List Packet) (n : Node) (doubt : Doubt) → IsDown told g v given n doubt old → IsSynced told faults g v old → IsSynced told faults g v new

  -- the same of a node over disks that were
  abbrev pub KeepsDisksSynced : (D → ℕ) → Stage D → Disks D → Stage D → Type 0
  KeepsDisksSynced faults old disks new = (g : Game) (v : ℕ) (given : List Packet) (n : Node) (doubt : Doubt) → IsDown told g v given n doubt old → LeavesSynced told faults g v disks → IsSynced told faults g v new

module _ {D : Type 0} (told : Watched D → Option Story) (faults : Watched D → ℕ) (fate : Watched D → Option Fate) (hinted : Watched D → ℕ) where
  -- what became of its disks, all restarted with one pick
  abbrev pub RestartsDisks : {T : Type 0} → Stage (Watched D) → Result T NodeFault → Stage (Watched D) → Type 0
  RestartsDisks old result new = (before after : Disks (Watched D)) → HasDisks before old → HasDisks after new → RestartsBy told faults fate (disk_owner old) (pick_of hinted before) result before after
