-- What calls of a station say, over all that contracts see of its devices.
use Rattle.std.specs.Prelude.{◌≡◌, ℕ, ◌<◌, ◌≤◌, List, Result, OnOk}
use Rattle.ken_disk.specs.declared.disk.Disk as disk
use Rattle.ken_app.specs.declared.oracle.Oracle as oracle
use Rattle.ken_app.specs.Oracles.{Answers}
use Rattle.ken_model.specs.declared.messages.Out.{Out}
use Rattle.ken_model.specs.Game.{Game}
use Rattle.ken_model.specs.Handler.{Handler}
use Rattle.ken_core.specs.Calls.{Doubt}
use Rattle.ken_core.specs.Nodes.{Node}
use Rattle.ken_core.specs.Packets.{Packet}
use Rattle.ken_store.specs.declared.disks.Disks.{Disks}
use Rattle.ken_ship.specs.declared.emit.Emit.{Emit}
use Rattle.ken_ship.specs.declared.faults.NodeFault.{NodeFault}
use Rattle.ken_ship.specs.declared.outlet.Outlet as outlet
use Rattle.ken_ship.specs.Outlets.{also_took}
use Rattle.ken_work.specs.declared.took.Took.{Took}
use Rattle.ken_node.specs.declared.watched.Watched.{Watched}
use Rattle.ken_node.specs.Down.{IsDown, MayRestart}
use Rattle.ken_node.specs.NodeCalls.{DisksFailBy, EmitStepsBy, HearSteps, SendSteps, UnlessMemory}
use Rattle.ken_node.specs.NodeTurns.{TurnStepsBy}
use Rattle.ken_node.specs.Stages.{HasDisks, emissions_in, image_told, refusals_in}
use Rattle.ken_node.specs.Synced.{IsSynced}
use Rattle.ken_node.specs.Up.{IsUp, MayBeCalled, MayBeCalledOn, MayTakeTurns}
use Rattle.ken_run.specs.declared.faults.RunFault.{RunFault}
use Rattle.ken_run.specs.declared.station.Station.{Station}
use Rattle.ken_run.specs.Accounts.{AccountsStation, IsHeld, Terms}
use Rattle.ken_run.specs.Counts.{KeepCounts}
use Rattle.ken_run.specs.Ends.{WereGiven, WerePut}
use Rattle.ken_run.specs.Creating.{BeginsAccounts, BeginsStation, CreatesStation, IsBorn, IsFresh, MayBeBorn, RaisesStation}
use Rattle.ken_run.specs.Stations.{RestartsStation}
use Rattle.ken_run.specs.Devices.{IsNewOracle}

-- what waits in inboxes, by the node and in order
abbrev pub Boxes : Type 0
Boxes = List (List (List ℕ))

module _ {D O U : Type 0} where
  -- the numbers that a node keeps of its outlet stand
  abbrev pub KeepsEmissions : Station D O U → Station D O U → Type 0
  KeepsEmissions old new = emissions_in new.node.stage ≡ emissions_in old.node.stage

  abbrev pub KeepsRefusals : Station D O U → Station D O U → Type 0
  KeepsRefusals old new = refusals_in new.node.stage ≡ refusals_in old.node.stage

  -- its disks saw no call
  abbrev pub KeepsDisks : Station D O U → Station D O U → Type 0
  KeepsDisks old new = (before after : Disks (Watched D)) → HasDisks before old.node.stage → HasDisks after new.node.stage → after ≡ before

  -- a restart, or a creation, leaves all else
  abbrev pub IsRestartOf : Station D O U → Station D O U → Type 0
  IsRestartOf old new = new ≡ record old { node = new.node; restarts = new.restarts; lines = new.lines }

module _ {D O U : Type 0} (d : disk.Ghosts D) where
  -- its node takes calls, over an end of the run's network too, and turns
  abbrev pub MayCall : Station D O U → Type 0
  MayCall s = MayBeCalled (λ w. d.told w.disk) (λ w. d.size w.disk) s.node.stage

  abbrev pub MayCallOn : ℕ → ℕ → Station D O U → Type 0
  MayCallOn v boxes s = MayBeCalledOn (λ w. d.told w.disk) (λ w. d.size w.disk) v boxes s.node.stage

  abbrev pub MayTurn : Handler → ℕ → ℕ → Station D O U → Type 0
  MayTurn h v boxes s = MayTakeTurns (λ w. d.told w.disk) (λ w. d.size w.disk) h v boxes s.node.stage

  abbrev pub MayComeBack : Station D O U → Type 0
  MayComeBack s = MayRestart (λ w. d.told w.disk) s.node.stage

  -- it is up as node v of a game, which stands for n, or down with something in doubt
  abbrev pub UpAs : Game → ℕ → Node → Station D O U → Type 0
  UpAs g v n s = IsUp (λ w. d.told w.disk) (λ w. d.size w.disk) g v n s.node.stage

  abbrev pub DownAs : Game → ℕ → List Packet → Node → Doubt → Station D O U → Type 0
  DownAs g v given n doubt s = IsDown (λ w. d.told w.disk) g v given n doubt s.node.stage

  abbrev pub SyncedAs : Game → ℕ → Station D O U → Type 0
  SyncedAs g v s = IsSynced (λ w. d.told w.disk) (λ w. d.faults w.disk) g v s.node.stage

  -- its logs were synced as often as before, for its turns
  abbrev pub StaysSynced : Station D O U → Station D O U → Type 0
  StaysSynced old new = (g : Game) (v : ℕ) → SyncedAs g v old → SyncedAs g v new

  abbrev pub SyncsTurn : Handler → Station D O U → Result Took NodeFault → Station D O U → Type 0
  SyncsTurn h old result new = (g : Game) (v : ℕ) (n : Node) → UpAs g v n old → h ≡ g.handler → SyncedAs g v old → UnlessMemory result (SyncedAs g v new)

  -- what became of its disks, by the answer
  abbrev pub FailsDisks : Station D O U → Result Took NodeFault → Station D O U → Type 0
  FailsDisks old result new = (before after : Disks (Watched D)) → HasDisks before old.node.stage → HasDisks after new.node.stage → DisksFailBy (λ w. d.told w.disk) (λ w. d.faults w.disk) (λ w. d.fate w.disk) result before after

  -- no count of faults of its disks fell
  abbrev pub KeepsCounts : Station D O U → Station D O U → Type 0
  KeepsCounts old new = KeepCounts (λ w. d.faults w.disk) old.node.stage new.node.stage

  abbrev pub KeepsImageTold : Station D O U → Station D O U → Type 0
  KeepsImageTold old new = image_told (λ w. d.told w.disk) new.node.stage ≡ image_told (λ w. d.told w.disk) old.node.stage

  -- a call is steps of its node in the core, by its answer: it sends, or hears
  abbrev pub SendsAs : {E : Type 0} → Boxes → Boxes → Station D O U → Result (Unit {0}) E → Station D O U → Type 0
  SendsAs mail mail2 old result new = (g : Game) (v : ℕ) (n : Node) → UpAs g v n old → v ≡ old.mail.from → OnOk result (SendSteps (λ w. d.told w.disk) (λ w. d.size w.disk) g v n (WerePut old.mail new.mail mail mail2) new.node.stage)

  abbrev pub HearsAs : {E : Type 0} → Boxes → Boxes → Station D O U → Result (Unit {0}) E → Station D O U → Type 0
  HearsAs acks acks2 old result new = (g : Game) (v : ℕ) (n : Node) → UpAs g v n old → v ≡ old.mail.from → (nones : ℕ) × OnOk result (HearSteps (λ w. d.told w.disk) (λ w. d.size w.disk) g v n (WereGiven v nones acks acks2) 0 nones new.node.stage)

  -- a restart, and restarts until one answers
  abbrev pub ComesBack : Station D O U → Result (Unit {0}) NodeFault → Station D O U → Type 0
  ComesBack old result new = (g : Game) (v : ℕ) (given : List Packet) (n : Node) (doubt : Doubt) → DownAs g v given n doubt old → RestartsStation (λ w. d.told w.disk) (λ w. d.size w.disk) result g v given n doubt old new

  abbrev pub IsRaised : ℕ → Station D O U → Result (Unit {0}) NodeFault → Station D O U → Type 0
  IsRaised most old result new = (g : Game) (v : ℕ) (given : List Packet) (n : Node) (doubt : Doubt) → DownAs g v given n doubt old → RaisesStation (λ w. d.told w.disk) (λ w. d.size w.disk) result g v given n doubt most old new

  -- it isn't created yet
  abbrev pub Born : Game → ℕ → Station D O U → Type 0
  Born g v s = IsBorn (λ w. d.told w.disk) g v s

  abbrev pub MayBegin : Station D O U → Type 0
  MayBegin s = MayBeBorn (λ w. d.told w.disk) s

  abbrev pub IsMade : ℕ → Station D O U → Result (Unit {0}) NodeFault → Station D O U → Type 0
  IsMade most old result new = (g : Game) (v : ℕ) → Born g v old → CreatesStation (λ w. d.told w.disk) (λ w. d.size w.disk) result g v most new

  abbrev pub Begins : ℕ → ℕ → Station D O U → Result (Unit {0}) RunFault → Station D O U → Type 0
  Begins node most old result new = (g : Game) (v : ℕ) → Born g v old → BeginsStation (λ w. d.told w.disk) (λ w. d.size w.disk) result g v node most new

  abbrev pub RefusedNone : Station D O U → Station D O U → Type 0
  RefusedNone old new = (g : Game) (v : ℕ) → Born g v old → refusals_in new.node.stage ≡ 0

module _ {D O U : Type 0} (d : disk.Ghosts D) (u : outlet.Ghosts U) where
  -- it emits
  abbrev pub EmitsAs : Station D O U → Result Emit NodeFault → Station D O U → Type 0
  EmitsAs old result new = (g : Game) (v : ℕ) (n : Node) → UpAs d g v n old → EmitStepsBy (λ w. d.told w.disk) (λ w. d.size w.disk) result g v n (λ (taken : List Out). u.took new.out ≡ also_took taken (u.took old.out)) old.node.stage new.node.stage

module _ {D O U : Type 0} (d : disk.Ghosts D) (o : oracle.Ghosts O) where
  -- its oracle answered what a turn drew
  abbrev pub Drew : Handler → Station D O U → Station D O U → List ℕ → Type 0
  Drew h old new draws = Answers (o.telling.clocks old.luck) (o.telling.clocks new.luck) (h.clocks draws) × Answers (o.telling.words old.luck) (o.telling.words new.luck) (h.words draws)

  -- it makes a turn
  abbrev pub TurnsAs : Handler → Boxes → Boxes → Boxes → Boxes → Station D O U → Result Took NodeFault → Station D O U → Type 0
  TurnsAs h mail mail2 acks acks2 old result new =
      (g : Game) (v : ℕ) (n : Node) → (up : UpAs d g v n old) → v ≡ old.acks.from → h ≡ g.handler
      → (nones : ℕ) × TurnStepsBy (λ w. d.told w.disk) (λ w. d.size w.disk) g v n (WereGiven v nones mail mail2) (WerePut old.acks new.acks acks acks2) result (Drew h old new) 0 nones up.handler new.node.stage

  -- it is accounted for after a restart, after restarts, and after its creation
  abbrev pub AccountsBack : Station D O U → Result (Unit {0}) NodeFault → Station D O U → Type 0
  AccountsBack old result new = (terms : Terms) (g : Game) (v : ℕ) → IsHeld (λ w. d.told w.disk) (λ w. d.faults w.disk) (λ w. d.fate w.disk) o.telling terms g v old → old.restarts < terms.most → AccountsStation (λ w. d.told w.disk) (λ w. d.faults w.disk) (λ w. d.fate w.disk) o.telling terms g result v new

  abbrev pub AccountsRaised : ℕ → Station D O U → Result (Unit {0}) NodeFault → Station D O U → Type 0
  AccountsRaised most old result new = (terms : Terms) (g : Game) (v : ℕ) → IsHeld (λ w. d.told w.disk) (λ w. d.faults w.disk) (λ w. d.fate w.disk) o.telling terms g v old → most ≤ terms.most → AccountsStation (λ w. d.told w.disk) (λ w. d.faults w.disk) (λ w. d.fate w.disk) o.telling terms g result v new

  abbrev pub AccountsMade : ℕ → Station D O U → Result (Unit {0}) NodeFault → Station D O U → Type 0
  AccountsMade most old result new =
      (terms : Terms) (g : Game) (v : ℕ) (born : Born d g v old) → IsFresh (λ w. d.faults w.disk) (λ w. d.fate w.disk) terms v born.over.disks → IsNewOracle terms.scripted o.telling old.luck v terms.seed → most ≡ terms.most
      → AccountsStation (λ w. d.told w.disk) (λ w. d.faults w.disk) (λ w. d.fate w.disk) o.telling terms g result v new

  abbrev pub AccountsBegun : ℕ → Station D O U → Result (Unit {0}) RunFault → Station D O U → Type 0
  AccountsBegun most old result new =
      (terms : Terms) (g : Game) (v : ℕ) (born : Born d g v old) → IsFresh (λ w. d.faults w.disk) (λ w. d.fate w.disk) terms v born.over.disks → IsNewOracle terms.scripted o.telling old.luck v terms.seed → most ≡ terms.most
      → BeginsAccounts (λ w. d.told w.disk) (λ w. d.faults w.disk) (λ w. d.fate w.disk) o.telling terms g result v new
