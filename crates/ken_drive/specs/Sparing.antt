-- Which scripts let a node go down.
use Rattle.std.specs.Prelude.{ℕ, ◌+◌, ◌<◌, ◌≤◌, ◌⊎◌, List, ⊤}
use Rattle.std.specs.List.{Contains}
use Rattle.ken_script.specs.declared.scripts.Script.{Script}
use Rattle.ken_run.specs.declared.faults.RunFault.{RunFault}
use Rattle.ken_run.specs.declared.faults.RunFault.TheVariants.{Damaged, Down, Memory}
use Rattle.ken_drive.specs.Starting.{cut_count, fails_for}

-- an outlet that fails at these calls fails 65 times, one after the other
pub record FailsInARow (fails : List ℕ) : Type 0 where
  pub first : ℕ
  pub each : (call : ℕ) → first ≤ call → call < first + 65 → Contains fails call

-- a script lets node v go down: it has more cuts of its disks than restarts, or its outlet fails 65 times, one after the other
abbrev pub LetsGoDown : Script → ℕ → Type 0
LetsGoDown script v = (script.restarts < cut_count v script) ⊎ FailsInARow (fails_for v script.outlets)

-- and none
abbrev pub IsSpared : Script → Type 0
IsSpared script = (v : ℕ) → LetsGoDown script v → ⊥

-- by the fault of a run: the node that is down is one that the script lets go down
abbrev pub IsLetBy : Script → RunFault → Type 0
IsLetBy script (Down v) = LetsGoDown script v
IsLetBy script Memory = ⊤
IsLetBy script (Damaged v disk place) = ⊥
