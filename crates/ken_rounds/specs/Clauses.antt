-- What rounds of a run say, over all that contracts see of its devices and its application.
use Rattle.std.specs.Prelude.{◌≡◌, ℕ, Result}
use Rattle.ken_disk.specs.declared.disk.Disk as disk
use Rattle.ken_app.specs.declared.app.App as app
use Rattle.ken_app.specs.declared.oracle.Oracle as oracle
use Rattle.ken_model.specs.Game.{Game}
use Rattle.ken_ship.specs.declared.outlet.Outlet as outlet
use Rattle.ken_run.specs.declared.faults.RunFault.{RunFault}
use Rattle.ken_run.specs.declared.run.Run.{Run}
use Rattle.ken_run.specs.Accounts.{AreAccounted, Terms}
use Rattle.ken_run.specs.Clauses.{Up}
use Rattle.ken_run.specs.Refusals.{AreRefused, RefusedRunBy}
use Rattle.ken_rounds.specs.Quota.{ServesBy}
use Rattle.ken_rounds.specs.Shaken.{AccountsRoundsBy, LeavesRoundsBy, StopsRoundsBy}

-- all of a run but its nodes is as it was
pub record KeepsRest {D O U A : Type 0} (old new : Run D O U A) : Type 0 where
  pub nodes : new.nodes ≡ old.nodes
  pub app : new.app ≡ old.app
  pub restarts : new.restarts ≡ old.restarts
  pub waiting : new.waiting ≡ old.waiting

module _ {D O U A : Type 0} (d : disk.Ghosts D) (u : outlet.Ghosts U) (a : app.Ghosts A) where
  -- of a whole run, all nodes of which were up
  abbrev pub LeavesRounds : {T : Type 0} → Run D O U A → Result T RunFault → Run D O U A → Type 0
  LeavesRounds old result new = (g : Game) (made : ℕ) → Up d u a g made old → made ≡ g.nodes → LeavesRoundsBy (λ w. d.told w.disk) (λ w. d.size w.disk) u.took a.handler result g made new

  -- the turns that its nodes made in so many rounds
  abbrev pub QuotaRounds : {T : Type 0} → ℕ → Run D O U A → Result T RunFault → Run D O U A → Type 0
  QuotaRounds rounds old result new = (g : Game) (made : ℕ) → Up d u a g made old → made ≡ g.nodes → ServesBy (λ w. d.faults w.disk) g made rounds result old new

  -- and whose outlets had refused so often
  abbrev pub RefusesRounds : {T : Type 0} → Run D O U A → Result T RunFault → Run D O U A → Type 0
  RefusesRounds old result new = (terms : Terms) (g : Game) (made : ℕ) → Up d u a g made old → made ≡ g.nodes → AreRefused u.faults u.fate terms made old → RefusedRunBy u.faults u.fate terms result made new

module _ {D O U A : Type 0} (d : disk.Ghosts D) (o : oracle.Ghosts O) (u : outlet.Ghosts U) (a : app.Ghosts A) where
  -- and which were accounted for
  abbrev pub AccountsRounds : {T : Type 0} → Run D O U A → Result T RunFault → Run D O U A → Type 0
  AccountsRounds old result new =
      (terms : Terms) (g : Game) (made : ℕ) → Up d u a g made old → made ≡ g.nodes → AreAccounted (λ w. d.told w.disk) (λ w. d.faults w.disk) (λ w. d.fate w.disk) o.telling terms g made old
      → AccountsRoundsBy (λ w. d.told w.disk) (λ w. d.faults w.disk) (λ w. d.fate w.disk) o.telling terms g result made new

  abbrev pub StopsRounds : {T : Type 0} → Run D O U A → Result T RunFault → Run D O U A → Type 0
  StopsRounds old result new =
      (terms : Terms) (g : Game) (made : ℕ) → Up d u a g made old → made ≡ g.nodes → AreAccounted (λ w. d.told w.disk) (λ w. d.faults w.disk) (λ w. d.fate w.disk) o.telling terms g made old → AreRefused u.faults u.fate terms made old
      → StopsRoundsBy (λ w. d.told w.disk) (λ w. d.faults w.disk) (λ w. d.fate w.disk) o.telling terms g u.faults u.fate result new
