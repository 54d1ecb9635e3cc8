-- What becomes of nodes by the faults that their workers kept in a round.
use Rattle.std.specs.Prelude.{◌≡◌, ◌≢◌, ℕ, ◌<◌, List, length, slice_index_or, Option, Some, None, Result, Ok, Err}
use Rattle.std.specs.declared.alloc.AllocError.{AllocError}
use Rattle.ken_disk.specs.declared.disk.Disk as disk
use Rattle.ken_app.specs.declared.oracle.Oracle as oracle
use Rattle.ken_work.specs.Parts.{CountsAnew}
use Rattle.ken_node.specs.Stages.{refusals_in}
use Rattle.ken_ship.specs.declared.faults.NodeFault.{NodeFault}
use Rattle.ken_ship.specs.declared.faults.NodeFault.TheVariants.{Disk, Damaged, Outlet, Memory}
use Rattle.ken_run.specs.declared.faults.RunFault.{RunFault}
use Rattle.ken_run.specs.declared.faults.RunFault.TheVariants as run_faults
use Rattle.ken_run.specs.declared.station.Station.{Station}
use Rattle.ken_run.specs.StationClauses.{AccountsRaised, IsRaised, IsRestartOf, KeepsCounts, KeepsEmissions, MayComeBack}
use Rattle.ken_rounds.specs.Lending.{station_at}

module _ {D O U : Type 0} (d : disk.Ghosts D) where
  -- where a disk failed the node may be restarted
  abbrev pub MayRise : Option NodeFault → Station D O U → Type 0
  MayRise fault s = fault ≡ Some Disk → MayComeBack d s

  abbrev pub MayAllRise : List (Option NodeFault) → List (Station D O U) → Type 0
  MayAllRise faults stations = (v : ℕ) (none : Station D O U) → v < length stations → MayRise (slice_index_or faults v None) (station_at v stations none)

module _ {D O U : Type 0} (d : disk.Ghosts D) (o : oracle.Ghosts O) (most : ℕ) where
  -- a node was restarted until a restart answered, or so often, by the answer
  pub record WasRaised (result : Result (Unit {0}) NodeFault) (old new : Station D O U) : Type 0 where
    pub back : IsRaised d most old result new
    pub accounts : AccountsRaised d o most old result new
    pub counts : KeepsCounts d old new
    pub emissions : KeepsEmissions old new
    pub refusals : CountsAnew result (refusals_in old.node.stage) (refusals_in new.node.stage)
    pub rest : IsRestartOf old new

  -- a node goes on: it had no fault, or was restarted
  pub data GoesOn (fault : Option NodeFault) (old new : Station D O U) : Type 0 where
    as_it_was : fault ≡ None → new ≡ old → GoesOn fault old new
    again : fault ≡ Some Disk → WasRaised (Ok tt) old new → GoesOn fault old new

  -- or is down: its outlet refused once too often, or it was restarted as often as it may be
  pub data IsOut (fault : Option NodeFault) (old new : Station D O U) : Type 0 where
    refused : fault ≡ Some Outlet → new ≡ old → IsOut fault old new
    used_up : fault ≡ Some Disk → WasRaised (Err Disk) old new → IsOut fault old new

  -- by the answer of one look
  abbrev pub RisesBy : ℕ → Option NodeFault → Result (Unit {0}) RunFault → Station D O U → Station D O U → Type 0
  RisesBy v fault (Ok x) old new = GoesOn fault old new
  RisesBy v fault (Err (run_faults.Down node)) old new = (node ≡ v) × IsOut fault old new
  RisesBy v fault (Err run_faults.Memory) old new = Unit {0}
  RisesBy v fault (Err (run_faults.Damaged node disk place)) old new = (fault ≡ Some Disk) × WasRaised (Err (Damaged disk place)) old new

  -- all nodes below v go on
  abbrev pub GoOnBelow : ℕ → List (Option NodeFault) → List (Station D O U) → List (Station D O U) → Type 0
  GoOnBelow v faults old new = (u : ℕ) (none : Station D O U) → u < v → GoesOn (slice_index_or faults u None) (station_at u old none) (station_at u new none)

  -- node v is down, and those after it weren't looked at
  pub record IsOutAt (v : ℕ) (faults : List (Option NodeFault)) (old new : List (Station D O U)) : Type 0 where
    pub known : v < length old
    pub count : length new ≡ length old
    pub before : GoOnBelow v faults old new
    pub own : (none : Station D O U) → IsOut (slice_index_or faults v None) (station_at v old none) (station_at v new none)
    pub after : (u : ℕ) (none : Station D O U) → v < u → station_at u new none ≡ station_at u old none

  -- a disk of some node is damaged, at a restart
  pub record IsDamagedAt (disk place : ℕ) (faults : List (Option NodeFault)) (old new : List (Station D O U)) : Type 0 where
    pub node : ℕ
    pub known : node < length old
    pub own : (none : Station D O U) → (slice_index_or faults node None ≡ Some Disk) × WasRaised (Err (Damaged disk place)) (station_at node old none) (station_at node new none)

  -- by the answer of all looks
  abbrev pub RaisesBy : List (Option NodeFault) → Result (Unit {0}) RunFault → List (Station D O U) → List (Station D O U) → Type 0
  RaisesBy faults (Ok x) old new = (length new ≡ length old) × GoOnBelow (length old) faults old new
  RaisesBy faults (Err (run_faults.Down v)) old new = IsOutAt v faults old new
  RaisesBy faults (Err run_faults.Memory) old new = length new ≡ length old
  RaisesBy faults (Err (run_faults.Damaged v disk place)) old new = IsDamagedAt disk place faults old new

-- no node wanted memory
abbrev pub HadMemoryAll : List (Option NodeFault) → Type 0
HadMemoryAll faults = (v : ℕ) → v < length faults → slice_index_or faults v None ≢ Some Memory

module _ {D O U : Type 0} (d : disk.Ghosts D) where
  -- where a round ran, and no node wanted memory, those whose disks failed may be restarted
  abbrev pub MayAnswer : Result (Unit {0}) AllocError → List (Option NodeFault) → List (Station D O U) → Type 0
  MayAnswer (Ok x) faults stations = HadMemoryAll faults → MayAllRise d faults stations
  MayAnswer (Err error) faults stations = Unit {0}

module _ {D O U : Type 0} (d : disk.Ghosts D) (o : oracle.Ghosts O) (most : ℕ) where
  -- it ran, none wanted memory, and this became of the nodes
  pub record Answered (ran : Result (Unit {0}) AllocError) (faults : List (Option NodeFault)) (result : Result (Unit {0}) RunFault) (old new : List (Station D O U)) : Type 0 where
    pub made : ran ≡ Ok tt
    pub had : HadMemoryAll faults
    pub raised : RaisesBy d o most faults result old new

  -- but for want of memory
  abbrev pub AnswersBy : Result (Unit {0}) AllocError → List (Option NodeFault) → Result (Unit {0}) RunFault → List (Station D O U) → List (Station D O U) → Type 0
  AnswersBy ran faults (Ok x) old new = Answered ran faults (Ok x) old new
  AnswersBy ran faults (Err (run_faults.Down v)) old new = Answered ran faults (Err (run_faults.Down v)) old new
  AnswersBy ran faults (Err run_faults.Memory) old new = length new ≡ length old
  AnswersBy ran faults (Err (run_faults.Damaged v disk place)) old new = Answered ran faults (Err (run_faults.Damaged v disk place)) old new
