-- How often an outlet has failed, one time after the other, that refuses the output which is due.
use Rattle.std.specs.Prelude.{◌≡◌, ℕ, ◌+◌, ◌-◌, ◌^◌, ◌<◌, ◌≤◌, ◌⊎◌, slice_index_or, Option, Some, Result, Ok, Err}
use Rattle.std.specs.List.{Contains}
use Rattle.ken_disk.specs.Fates as disk
use Rattle.ken_disk.specs.Story.{Story}
use Rattle.ken_model.specs.Game.{Game}
use Rattle.ken_app.specs.Oracles.{Telling}
use Rattle.ken_node.specs.declared.watched.Watched.{Watched}
use Rattle.ken_ship.specs.declared.faults.NodeFault.{NodeFault}
use Rattle.ken_ship.specs.declared.faults.NodeFault.TheVariants.{Disk, Damaged, Outlet, Memory}
use Rattle.ken_ship.specs.Fates.{Fate}
use Rattle.ken_node.specs.Stages.{refusals_in}
use Rattle.ken_run.specs.Accounts.{IsUsedUp, Terms}
use Rattle.ken_run.specs.declared.faults.RunFault.{RunFault}
use Rattle.ken_run.specs.declared.faults.RunFault.TheVariants.{Down}
use Rattle.ken_run.specs.declared.faults.RunFault.TheVariants as run_faults
use Rattle.ken_run.specs.declared.run.Run.{Run}
use Rattle.ken_run.specs.declared.station.Station.{Station}
use Rattle.ken_run.specs.Devices.{MayFailAt}

-- so many calls were made, and the numbers of the last ones are among those that may fail
pub record LastFail (often : ℕ) (f : Fate) : Type 0 where
  pub made : often ≤ f.calls
  pub each : (call : ℕ) → f.calls < call + often → call ≤ f.calls → Contains f.fails call

-- a call on the list, no earlier than the last one
pub record IsListedLate (f : Fate) : Type 0 where
  pub call : ℕ
  pub late : f.calls ≤ call
  pub listed : Contains f.fails call

-- an outlet has counted so many faults; and so many of its last calls failed, where it tells its calls and can count one more. Where it
-- can't, the last one that failed is on the list still
pub record HasFailedLast {U : Type 0} (faults : U → ℕ) (fate : U → Option Fate) (often : ℕ) (out : U) : Type 0 where
  pub counted : often ≤ faults out
  pub running : (f : Fate) → fate out ≡ Some f → f.calls < 2 ^ 64 - 1 → LastFail often f
  pub listed : 0 < often → (f : Fate) → fate out ≡ Some f → IsListedLate f

-- node v was restarted as often as it may be
abbrev pub IsUsedUpOf : {D O U A : Type 0} → ℕ → Run D O U A → Type 0
IsUsedUpOf {D} {O} {U} v r = (d : Station D O U) → r.restarts ≤ (slice_index_or r.stations.items v d).restarts

module _ {D O U : Type 0} (faults : U → ℕ) (fate : U → Option Fate) (terms : Terms) where
  -- the outlet of node v has failed as often as its node counts, which is at most 64 times; and it may fail at its own calls
  pub record IsRefused (v : ℕ) (s : Station D O U) : Type 0 where
    pub few : refusals_in s.node.stage ≤ 64
    pub failed : HasFailedLast faults fate (refusals_in s.node.stage) s.out
    pub fails : MayFailAt terms.scripted v (terms.fails v) (fate s.out)

  -- so of each node that was made, up or down
  pub record AreRefused {A : Type 0} (made : ℕ) (r : Run D O U A) : Type 0 where
    pub each : (v : ℕ) (d : Station D O U) → v < made → IsRefused v (slice_index_or r.stations.items v d)

  -- the outlet of node v has failed 65 times
  abbrev pub IsWornOut : {A : Type 0} → ℕ → Run D O U A → Type 0
  IsWornOut v r = (d : Station D O U) → HasFailedLast faults fate 65 (slice_index_or r.stations.items v d).out

  -- by the answer of a call of node v, or several. After want of memory nothing is said
  abbrev pub RefusedFault : {A : Type 0} → NodeFault → ℕ → ℕ → Run D O U A → Type 0
  RefusedFault Disk made v r = AreRefused made r
  RefusedFault Memory made v r = Unit {0}
  RefusedFault Outlet made v r = AreRefused made r × IsWornOut v r
  RefusedFault (Damaged disk place) made v r = Unit {0}

  abbrev pub RefusedBy : {A T : Type 0} → Result T NodeFault → ℕ → ℕ → Run D O U A → Type 0
  RefusedBy (Ok x) made v r = AreRefused made r
  RefusedBy (Err fault) made v r = RefusedFault fault made v r

  -- by the answer of visits
  abbrev pub RefusedRunFault : {A : Type 0} → RunFault → ℕ → Run D O U A → Type 0
  RefusedRunFault (Down v) made r = AreRefused made r × (IsWornOut v r ⊎ IsUsedUpOf v r)
  RefusedRunFault run_faults.Memory made r = Unit {0}
  RefusedRunFault (run_faults.Damaged v disk place) made r = Unit {0}

  abbrev pub RefusedRunBy : {A T : Type 0} → Result T RunFault → ℕ → Run D O U A → Type 0
  RefusedRunBy (Ok x) made r = AreRefused made r
  RefusedRunBy (Err fault) made r = RefusedRunFault fault made r

-- by the answer of visits: node v is down and has used up its restarts, or its outlet has failed 65 times
abbrev pub StopsBy : {D O U A T : Type 0} → (Watched D → Option Story) → (Watched D → ℕ) → (Watched D → Option disk.Fate) → Telling O → (U → ℕ) → (U → Option Fate) → Terms → Game → Result T RunFault → ℕ → Run D O U A → Type 0
StopsBy told count falls telling faults fate terms g (Ok x) made r = Unit {0}
StopsBy told count falls telling faults fate terms g (Err (Down v)) made r = IsUsedUp told count falls telling terms g made v r ⊎ IsWornOut faults fate terms v r
StopsBy told count falls telling faults fate terms g (Err run_faults.Memory) made r = Unit {0}
StopsBy told count falls telling faults fate terms g (Err (run_faults.Damaged v disk place)) made r = Unit {0}

-- where this holds before, it does after
module _ {D O U : Type 0} (faults : U → ℕ) (fate : U → Option Fate) where
  abbrev pub StaysRefused : {A : Type 0} → ℕ → Run D O U A → Run D O U A → Type 0
  StaysRefused v old new = (terms : Terms) (made : ℕ) → v < made → AreRefused faults fate terms made old → AreRefused faults fate terms made new

  abbrev pub StayRefused : {A : Type 0} → Run D O U A → Run D O U A → Type 0
  StayRefused old new = (terms : Terms) (made : ℕ) → old.nodes ≤ made → AreRefused faults fate terms made old → AreRefused faults fate terms made new
