-- What a world gives to a run.
use Rattle.std.specs.Prelude.{◌≡◌, ℕ, ◌≤◌, List, [], length, Bool, false, Option, None, IfSome}
use Rattle.ken_disk.specs.Fates.{Fate}
use Rattle.ken_memdisk.specs.declared.cut.Cut.{Cut}
use Rattle.ken_memdisk.specs.Calls.{origin_of}
use Rattle.ken_ship.specs.Fates as ship
use Rattle.ken_run.specs.Devices.{IsTold, MayFailAt}
use Rattle.ken_drive.specs.declared.memory.Kept.{Kept}

-- that disk of a node, which was handed these cuts: it is up, was never restarted, and has no more falls than cuts
pub record IsNewDisk (node which : ℕ) (cuts : List Cut) (f : Fate) : Type 0 where
  pub up : f.down ≡ false
  pub few : f.falls ≤ length cuts
  pub origin : f.origin ≡ origin_of node which cuts
  pub never : f.picks ≡ []

-- so of a disk, as far as it tells
abbrev pub IsFatedDisk : Bool → ℕ → ℕ → List Cut → Option Fate → Type 0
IsFatedDisk scripted node which cuts fate = IsTold scripted fate (IsNewDisk node which cuts)

-- such an outlet, of which no call was made
pub record IsFatedOutlet (scripted : Bool) (node : ℕ) (fails : List ℕ) (fate : Option ship.Fate) : Type 0 where
  pub may : MayFailAt scripted node fails fate
  pub none : IfSome fate (λ f. f.calls ≡ 0)

-- a world has kept nothing
abbrev pub HasKeptNothing : {K : Type 0} → (ℕ → Option K) → Type 0
HasKeptNothing kept = (v : ℕ) → kept v ≡ None

-- what contracts see of a world in memory: what it keeps of each node that there may be, and its files
pub record Holdings (F : Type 0) : Type 0 where
  pub kept : List (Option Kept)
  pub files : F
