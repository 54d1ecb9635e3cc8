-- What calls of a drive say alike, over all that contracts see of its devices and its application.
use Rattle.std.specs.Prelude.{◌≡◌, ℕ, Bool, Option, Result, IfOk}
use Rattle.ken_disk.specs.declared.disk.Disk as disk
use Rattle.ken_app.specs.declared.app.App as app
use Rattle.ken_app.specs.declared.oracle.Oracle as oracle
use Rattle.ken_files.specs.Filing.{FileViews}
use Rattle.ken_model.specs.declared.reports.Lines.{Lines}
use Rattle.ken_model.specs.Game.{Game}
use Rattle.ken_model.specs.Handler.{Handler}
use Rattle.ken_model.specs.Limits.{IsPlainRun}
use Rattle.ken_script.specs.declared.scripts.Script.{Script}
use Rattle.ken_ship.specs.declared.outlet.Outlet as outlet
use Rattle.ken_run.specs.declared.faults.RunFault.{RunFault}
use Rattle.ken_run.specs.declared.run.Run.{Run}
use Rattle.ken_run.specs.Accounts.{Terms}
use Rattle.ken_store.specs.declared.disks.Disks.{Disks}
use Rattle.ken_drive.specs.Driven.{EndsBy, Views}
use Rattle.ken_drive.specs.Ended.{IsEnded, IsReportOf, MayTell}
use Rattle.ken_run.specs.Refusals.{AreRefused}
use Rattle.ken_drive.specs.Starting.{FillsAccountsBy, FillsBy, StartsAccountsBy, StartsBy, game_by, terms_of}
use Rattle.ken_run.specs.Clauses.{Accounted, Up}

-- what contracts see of the devices of a world
abbrev pub views_of : {D O U : Type 0} → disk.Ghosts D → oracle.Ghosts O → outlet.Ghosts U → Bool → Views D O U
views_of d o u scripted = record { told = d.told; faults = d.faults; fate = d.fate; telling = o.telling; took = u.took; refused = u.faults; calls = u.fate; scripted = scripted }

-- and of its files
abbrev pub files_of : {F : Type 0} → disk.Ghosts F → Bool → FileViews F
files_of d tells = record { tells = tells; told = d.told; size = d.size; faults = d.faults }

-- ---- how a run starts

module _ {D O U A : Type 0} (d : disk.Ghosts D) (o : oracle.Ghosts O) (u : outlet.Ghosts U) (a : app.Ghosts A) where
  -- all nodes of a script's run, with a handler
  abbrev pub FillsRun : Bool → Handler → Script → Result (Unit {0}) RunFault → Run D O U A → Type 0
  FillsRun scripted h script result r = FillsBy (λ w. d.told w.disk) (λ w. d.size w.disk) u.took a.handler scripted o.telling u.faults u.fate h script result r

  abbrev pub AccountsFilled : Bool → Handler → Script → Result (Unit {0}) RunFault → Run D O U A → Type 0
  AccountsFilled scripted h script result r = FillsAccountsBy (λ w. d.told w.disk) (λ w. d.faults w.disk) (λ w. d.fate w.disk) o.telling (terms_of scripted script) (game_by h script) result r

  abbrev pub StartsRun : Bool → Handler → Script → Result (Run D O U A) RunFault → (ℕ → Option (Disks D × O × U)) → Type 0
  StartsRun scripted h script result kept = StartsBy (λ w. d.told w.disk) (λ w. d.size w.disk) u.took a.handler scripted o.telling u.faults u.fate h script result kept

  abbrev pub AccountsStarted : Bool → Handler → Script → Result (Run D O U A) RunFault → (ℕ → Option (Disks D × O × U)) → Type 0
  AccountsStarted scripted h script result kept = StartsAccountsBy (λ w. d.told w.disk) (λ w. d.faults w.disk) (λ w. d.fate w.disk) o.telling (terms_of scripted script) (game_by h script) result kept

module _ {D O U : Type 0} (u : outlet.Ghosts U) where
  -- refusals of the outlets of a script's run
  abbrev pub RefusesStarted : {A : Type 0} → Bool → Script → Run D O U A → Type 0
  RefusesStarted scripted script r = AreRefused u.faults u.fate (terms_of scripted script) script.facts.nodes r

-- ---- how it ends

module _ {D O U A : Type 0} (d : disk.Ghosts D) (u : outlet.Ghosts U) (a : app.Ghosts A) where
  abbrev pub Tells : Run D O U A → Type 0
  Tells r = MayTell (λ w. d.told w.disk) (λ w. d.size w.disk) u.took a.handler r

  abbrev pub Over : Game → Run D O U A → Type 0
  Over g r = IsEnded (λ w. d.told w.disk) (λ w. d.size w.disk) u.took a.handler g r

  abbrev pub ReportsRun : {E : Type 0} → Run D O U A → Result Lines E → Type 0
  ReportsRun r result = (g : Game) (e : Over g r) → IsPlainRun g → IfOk result (IsReportOf (λ w. d.told w.disk) (λ w. d.size w.disk) u.took a.handler g r e)

module _ {D O U A : Type 0} (d : disk.Ghosts D) (o : oracle.Ghosts O) (u : outlet.Ghosts U) (a : app.Ghosts A) where
  -- a whole run that makes rounds, is drained, and tells what it says
  abbrev pub TellsRun : Run D O U A → Result Lines RunFault → Run D O U A → Type 0
  TellsRun old result new = (terms : Terms) (g : Game) (made : ℕ) → Up d u a g made old → made ≡ g.nodes → Accounted d o u a terms g made old → AreRefused u.faults u.fate terms made old → IsPlainRun g → EndsBy (λ w. d.told w.disk) (λ w. d.size w.disk) (λ w. d.faults w.disk) (λ w. d.fate w.disk) o.telling u.took a.handler u.faults u.fate terms g result new
