-- What calls of a run say alike, over all that contracts see of its devices and its application.
use Rattle.std.specs.Prelude.{◌≡◌, ℕ, ◌+◌, ◌<◌, ◌≤◌, Bool, Result, IfOk, OnOk}
use Rattle.ken_disk.specs.declared.disk.Disk as disk
use Rattle.ken_app.specs.declared.app.App as app
use Rattle.ken_app.specs.declared.oracle.Oracle as oracle
use Rattle.ken_model.specs.Game.{Game}
use Rattle.ken_flow.specs.Standstill.{Flow}
use Rattle.ken_ship.specs.declared.faults.NodeFault.{NodeFault}
use Rattle.ken_ship.specs.declared.outlet.Outlet as outlet
use Rattle.ken_run.specs.declared.faults.RunFault.{RunFault}
use Rattle.ken_run.specs.declared.run.Run.{Run}
use Rattle.ken_run.specs.declared.station.Station.{Station}
use Rattle.ken_run.specs.Accounts.{AccountsBy, AccountsRunBy, AreAccounted, OneIsHeld, Terms}
use Rattle.ken_run.specs.declared.drain.PassOutcome.{PassOutcome}
use Rattle.ken_run.specs.Drained.{DrainsTo, HasDrained, PassesTo}
use Rattle.ken_run.specs.Draining.{DrainsBy, LessIsOpen, MayDrain, PassedIdly, PassesBy, ProgressesBy}
use Rattle.ken_run.specs.Flowing.{AllMoved, Moves}
use Rattle.ken_run.specs.Refusals.{AreRefused, RefusedBy, RefusedRunBy, StopsBy}
use Rattle.ken_run.specs.Running.{IsRunning, IsStopped, LeavesBy, LeavesRunBy, MayBeRestarted, MayGoOn, MayWork}
use Rattle.ken_run.specs.Creating.{AddsBy, IsFresh, IsStarted, Joins, JoinsAccountsBy, JoinsBy, MayJoin}
use Rattle.ken_run.specs.Devices.{IsNewOracle, MayFailAt}

-- ---- what they leave of the nodes and of what is on its way

module _ {D O U A : Type 0} (d : disk.Ghosts D) (u : outlet.Ghosts U) (a : app.Ghosts A) where
  -- nodes of a run take calls, or one may be restarted, or the run goes on
  abbrev pub Works : ℕ → Run D O U A → Type 0
  Works v r = MayWork (λ w. d.told w.disk) (λ w. d.size w.disk) u.took a.handler v r

  abbrev pub Restarts : ℕ → Run D O U A → Type 0
  Restarts v r = MayBeRestarted (λ w. d.told w.disk) (λ w. d.size w.disk) u.took a.handler v r

  abbrev pub GoesOn : Run D O U A → Type 0
  GoesOn r = MayGoOn (λ w. d.told w.disk) (λ w. d.size w.disk) u.took a.handler r

  abbrev pub Drains : Run D O U A → Type 0
  Drains r = MayDrain (λ w. d.told w.disk) (λ w. d.size w.disk) u.took a.handler r

  -- all nodes that were made are up, or one is down
  abbrev pub Up : Game → ℕ → Run D O U A → Type 0
  Up g made r = IsRunning (λ w. d.told w.disk) (λ w. d.size w.disk) u.took a.handler g made r

  abbrev pub Down : Game → ℕ → ℕ → Run D O U A → Type 0
  Down g made v r = IsStopped (λ w. d.told w.disk) (λ w. d.size w.disk) u.took a.handler g made v r

  -- a call of node v, by its answer: all nodes are up still, or this one is down
  abbrev pub LeavesNode : {T : Type 0} → ℕ → Run D O U A → Result T NodeFault → Run D O U A → Type 0
  LeavesNode v old result new = (g : Game) (made : ℕ) → Up g made old → v < made → LeavesBy (λ w. d.told w.disk) (λ w. d.size w.disk) u.took a.handler result g made v new

  -- after Ok less work is left than before; or as much, and what is on its way moved so
  abbrev pub MovesNode : {T E : Type 0} → (Game → Flow → Flow → Type 0) → ℕ → Run D O U A → Result T E → Run D O U A → Type 0
  MovesNode how v old result new = OnOk result (Moves (λ w. d.told w.disk) (λ w. d.size w.disk) u.took a.handler how v old new)

  -- a restart of node v: all nodes are up, or it is down
  abbrev pub LeavesAgain : {T : Type 0} → ℕ → Run D O U A → Result T NodeFault → Run D O U A → Type 0
  LeavesAgain v old result new = (g : Game) (made : ℕ) → Down g made v old → LeavesBy (λ w. d.told w.disk) (λ w. d.size w.disk) u.took a.handler result g made v new

  abbrev pub LeavesRestarted : {T : Type 0} → ℕ → Run D O U A → Result T RunFault → Run D O U A → Type 0
  LeavesRestarted v old result new = (g : Game) (made : ℕ) → Down g made v old → LeavesRunBy (λ w. d.told w.disk) (λ w. d.size w.disk) u.took a.handler result g made new

  -- a visit of node v, and of all
  abbrev pub LeavesVisited : {T : Type 0} → ℕ → Run D O U A → Result T RunFault → Run D O U A → Type 0
  LeavesVisited v old result new = (g : Game) (made : ℕ) → Up g made old → v < made → LeavesRunBy (λ w. d.told w.disk) (λ w. d.size w.disk) u.took a.handler result g made new

  abbrev pub LeavesRun : {T : Type 0} → Run D O U A → Result T RunFault → Run D O U A → Type 0
  LeavesRun old result new = (g : Game) (made : ℕ) → Up g made old → LeavesRunBy (λ w. d.told w.disk) (λ w. d.size w.disk) u.took a.handler result g made new

  abbrev pub MovesRun : {T E : Type 0} → (Game → Flow → Flow → Type 0) → Run D O U A → Result T E → Run D O U A → Type 0
  MovesRun how old result new = OnOk result (AllMoved (λ w. d.told w.disk) (λ w. d.size w.disk) u.took a.handler how old new)

  -- passes over a whole run, all nodes of which were made
  abbrev pub DrainsRun : {T : Type 0} → Run D O U A → Result T RunFault → Run D O U A → Type 0
  DrainsRun old result new = (g : Game) (made : ℕ) → Up g made old → made ≡ g.nodes → DrainsBy (λ w. d.told w.disk) (λ w. d.size w.disk) u.took a.handler result g made new

  -- one pass, three or fewer, and passes until one makes progress, by their answers; and how many there were, with what came after each
  abbrev pub PassesOnce : Run D O U A → Result PassOutcome RunFault → Run D O U A → Type 0
  PassesOnce old result new = PassesBy (λ w. d.told w.disk) (λ w. d.size w.disk) u.took a.handler (PassedIdly (λ w. d.told w.disk) (λ w. d.size w.disk) u.took a.handler) result old new

  abbrev pub PassesThrice : Run D O U A → Result PassOutcome RunFault → Run D O U A → Type 0
  PassesThrice old result new = PassesBy (λ w. d.told w.disk) (λ w. d.size w.disk) u.took a.handler LessIsOpen result old new

  abbrev pub PassesOn : Run D O U A → Result Bool RunFault → Run D O U A → Type 0
  PassesOn old result new = ProgressesBy (λ w. d.told w.disk) (λ w. d.size w.disk) u.took a.handler result old new

  abbrev pub HasPassed : Run D O U A → Result PassOutcome RunFault → Run D O U A → Type 0
  HasPassed old result new = PassesTo (λ w. d.told w.disk) (λ w. d.size w.disk) u.took a.handler result old new

  abbrev pub HasPassedOn : Run D O U A → Result Bool RunFault → Run D O U A → Type 0
  HasPassedOn old result new = DrainsTo (λ w. d.told w.disk) (λ w. d.size w.disk) u.took a.handler result old new

  abbrev pub HasPassedAll : {T E : Type 0} → Run D O U A → Result T E → Run D O U A → Type 0
  HasPassedAll old result new = OnOk result (HasDrained (λ w. d.told w.disk) (λ w. d.size w.disk) u.took a.handler old new)

-- ---- what they leave of the refusals of outlets

module _ {D O U A : Type 0} (u : outlet.Ghosts U) where
  abbrev pub RefusesNode : {T : Type 0} → ℕ → Run D O U A → Result T NodeFault → Run D O U A → Type 0
  RefusesNode v old result new = (terms : Terms) (made : ℕ) → v < made → AreRefused u.faults u.fate terms made old → RefusedBy u.faults u.fate terms result made v new

  abbrev pub RefusesVisited : {T : Type 0} → ℕ → Run D O U A → Result T RunFault → Run D O U A → Type 0
  RefusesVisited v old result new = (terms : Terms) (made : ℕ) → v < made → AreRefused u.faults u.fate terms made old → RefusedRunBy u.faults u.fate terms result made new

  abbrev pub RefusesRun : {T : Type 0} → Run D O U A → Result T RunFault → Run D O U A → Type 0
  RefusesRun old result new = (terms : Terms) (made : ℕ) → old.nodes ≤ made → AreRefused u.faults u.fate terms made old → RefusedRunBy u.faults u.fate terms result made new

module _ {D O U A : Type 0} (d : disk.Ghosts D) (u : outlet.Ghosts U) (a : app.Ghosts A) where
  abbrev pub RefusesPasses : {T : Type 0} → Run D O U A → Result T RunFault → Run D O U A → Type 0
  RefusesPasses old result new = (terms : Terms) (g : Game) (made : ℕ) → Up d u a g made old → made ≡ g.nodes → AreRefused u.faults u.fate terms made old → RefusedRunBy u.faults u.fate terms result made new

-- ---- what they leave of the accounts, and why a run stops

module _ {D O U A : Type 0} (d : disk.Ghosts D) (o : oracle.Ghosts O) (u : outlet.Ghosts U) (a : app.Ghosts A) where
  abbrev pub Accounted : Terms → Game → ℕ → Run D O U A → Type 0
  Accounted terms g made r = AreAccounted (λ w. d.told w.disk) (λ w. d.faults w.disk) (λ w. d.fate w.disk) o.telling terms g made r

  abbrev pub Held : Terms → Game → ℕ → ℕ → Run D O U A → Type 0
  Held terms g made v r = OneIsHeld (λ w. d.told w.disk) (λ w. d.faults w.disk) (λ w. d.fate w.disk) o.telling terms g made v r

  abbrev pub StopsRun : {T : Type 0} → Terms → Game → ℕ → Result T RunFault → Run D O U A → Type 0
  StopsRun terms g made result r = StopsBy (λ w. d.told w.disk) (λ w. d.faults w.disk) (λ w. d.fate w.disk) o.telling u.faults u.fate terms g result made r

  abbrev pub AccountsNode : {T : Type 0} → ℕ → Run D O U A → Result T NodeFault → Run D O U A → Type 0
  AccountsNode v old result new = (terms : Terms) (g : Game) (made : ℕ) → Up d u a g made old → v < made → Accounted terms g made old → AccountsBy (λ w. d.told w.disk) (λ w. d.faults w.disk) (λ w. d.fate w.disk) o.telling terms g result made v new

  abbrev pub AccountsAgain : {T : Type 0} → ℕ → ℕ → Run D O U A → Result T NodeFault → Run D O U A → Type 0
  AccountsAgain most v old result new = (terms : Terms) (g : Game) (made : ℕ) → Down d u a g made v old → most ≡ terms.most → Held terms g made v old → AccountsBy (λ w. d.told w.disk) (λ w. d.faults w.disk) (λ w. d.fate w.disk) o.telling terms g result made v new

  abbrev pub AccountsRestarted : {T : Type 0} → ℕ → Run D O U A → Result T RunFault → Run D O U A → Type 0
  AccountsRestarted v old result new = (terms : Terms) (g : Game) (made : ℕ) → Down d u a g made v old → Held terms g made v old → AccountsRunBy (λ w. d.told w.disk) (λ w. d.faults w.disk) (λ w. d.fate w.disk) o.telling terms g result made new

  abbrev pub AccountsVisited : {T : Type 0} → ℕ → Run D O U A → Result T RunFault → Run D O U A → Type 0
  AccountsVisited v old result new = (terms : Terms) (g : Game) (made : ℕ) → Up d u a g made old → v < made → Accounted terms g made old → AccountsRunBy (λ w. d.told w.disk) (λ w. d.faults w.disk) (λ w. d.fate w.disk) o.telling terms g result made new

  abbrev pub AccountsRun : {T : Type 0} → Run D O U A → Result T RunFault → Run D O U A → Type 0
  AccountsRun old result new = (terms : Terms) (g : Game) (made : ℕ) → Up d u a g made old → Accounted terms g made old → AccountsRunBy (λ w. d.told w.disk) (λ w. d.faults w.disk) (λ w. d.fate w.disk) o.telling terms g result made new

  abbrev pub AccountsPasses : {T : Type 0} → Run D O U A → Result T RunFault → Run D O U A → Type 0
  AccountsPasses old result new = (terms : Terms) (g : Game) (made : ℕ) → Up d u a g made old → made ≡ g.nodes → Accounted terms g made old → AccountsRunBy (λ w. d.told w.disk) (λ w. d.faults w.disk) (λ w. d.fate w.disk) o.telling terms g result made new

  -- why node v is told as down
  abbrev pub StopsRestarted : {T : Type 0} → ℕ → Run D O U A → Result T RunFault → Run D O U A → Type 0
  StopsRestarted v old result new = (terms : Terms) (g : Game) (made : ℕ) → Down d u a g made v old → Held terms g made v old → StopsRun terms g made result new

  abbrev pub StopsVisited : {T : Type 0} → ℕ → Run D O U A → Result T RunFault → Run D O U A → Type 0
  StopsVisited v old result new = (terms : Terms) (g : Game) (made : ℕ) → Up d u a g made old → v < made → Accounted terms g made old → AreRefused u.faults u.fate terms made old → StopsRun terms g made result new

  abbrev pub StopsPass : {T : Type 0} → Run D O U A → Result T RunFault → Run D O U A → Type 0
  StopsPass old result new = (terms : Terms) (g : Game) (made : ℕ) → Up d u a g made old → Accounted terms g made old → AreRefused u.faults u.fate terms made old → StopsRun terms g made result new

  abbrev pub StopsPasses : {T : Type 0} → Run D O U A → Result T RunFault → Run D O U A → Type 0
  StopsPasses old result new = (terms : Terms) (g : Game) (made : ℕ) → Up d u a g made old → made ≡ g.nodes → Accounted terms g made old → AreRefused u.faults u.fate terms made old → StopsRun terms g made result new

-- ---- how a node joins

module _ {D O U A : Type 0} (d : disk.Ghosts D) (u : outlet.Ghosts U) (a : app.Ghosts A) where
  -- so many nodes have started, and one more may join, or joins
  abbrev pub Started : Game → ℕ → Run D O U A → Type 0
  Started g made r = IsStarted (λ w. d.told w.disk) (λ w. d.size w.disk) u.took a.handler g made r

  abbrev pub MayAdd : Station D O U → Run D O U A → Type 0
  MayAdd s r = MayJoin (λ w. d.told w.disk) (λ w. d.size w.disk) u.took a.handler s r

  abbrev pub Joining : Game → ℕ → Station D O U → Run D O U A → Type 0
  Joining g made s r = Joins (λ w. d.told w.disk) (λ w. d.size w.disk) u.took a.handler g made s r

  abbrev pub JoinsRun : Station D O U → Run D O U A → Result (Unit {0}) RunFault → Run D O U A → Type 0
  JoinsRun s old result new = (g : Game) (made : ℕ) → Joining g made s old → JoinsBy (λ w. d.told w.disk) (λ w. d.size w.disk) u.took a.handler result g made new

  abbrev pub AddsStation : Station D O U → Run D O U A → Result (Unit {0}) RunFault → Run D O U A → Type 0
  AddsStation s old result new = AddsBy (λ w. d.told w.disk) (λ w. d.size w.disk) u.took a.handler result s old new

  abbrev pub RefusesJoined : Station D O U → Run D O U A → Result (Unit {0}) RunFault → Run D O U A → Type 0
  RefusesJoined s old result new =
      (terms : Terms) (g : Game) (made : ℕ) → Joining g made s old → MayFailAt terms.scripted made (terms.fails made) (u.fate s.out) → AreRefused u.faults u.fate terms made old
      → IfOk result (λ x. AreRefused u.faults u.fate terms (made + 1) new)

module _ {D O U A : Type 0} (d : disk.Ghosts D) (o : oracle.Ghosts O) (u : outlet.Ghosts U) (a : app.Ghosts A) where
  abbrev pub AccountsJoined : Station D O U → Run D O U A → Result (Unit {0}) RunFault → Run D O U A → Type 0
  AccountsJoined s old result new =
      (terms : Terms) (g : Game) (made : ℕ) (joins : Joining d u a g made s old) → IsFresh (λ w. d.faults w.disk) (λ w. d.fate w.disk) terms made joins.born.over.disks → IsNewOracle terms.scripted o.telling s.luck made terms.seed
      → Accounted d o u a terms g made old → JoinsAccountsBy (λ w. d.told w.disk) (λ w. d.faults w.disk) (λ w. d.fate w.disk) o.telling terms g result made new
