-- What the faults at which a node's workers stopped come to.
use Rattle.std.specs.Prelude.{◌≡◌, ◌≢◌, ◌||◌, Bool, true, false, Option, Some, None}
use Rattle.ken_ship.specs.declared.faults.NodeFault.{NodeFault}
use Rattle.ken_ship.specs.declared.faults.NodeFault.TheVariants.{Disk, Damaged, Outlet, Memory}
use Rattle.ken_threads.specs.declared.crew.Faults.{Faults}

-- whether it is a disk's
abbrev pub is_disk : Option NodeFault → Bool
is_disk (Some Disk) = true
is_disk (Some Memory) = false
is_disk (Some Outlet) = false
is_disk (Some (Damaged disk place)) = false
is_disk None = false

-- whether a disk failed, at a call of the handler or of the patcher
abbrev pub has_fallen : Faults → Bool
has_fallen f = is_disk f.handler || is_disk f.patcher

-- no worker wanted memory
pub record HadMemory (f : Faults) : Type 0 where
  pub handler : f.handler ≢ Some Memory
  pub patcher : f.patcher ≢ Some Memory
  pub externaliser : f.externaliser ≢ Some Memory

-- want of memory counts before an outlet that refused once too often, and that before a disk that failed
abbrev pub ComeTo : Faults → Option NodeFault → Type 0
ComeTo f None = HadMemory f × (has_fallen f ≡ false) × (f.externaliser ≢ Some Outlet)
ComeTo f (Some Disk) = HadMemory f × (has_fallen f ≡ true)
ComeTo f (Some Outlet) = HadMemory f × (f.externaliser ≡ Some Outlet)
ComeTo f (Some Memory) = Unit {0}
ComeTo f (Some (Damaged disk place)) = ⊥
