-- A node over disks in memory, between two calls.
use Rattle.std.specs.Prelude.{◌≡◌, ◌<◌, ◌≤◌, ℕ, length, Option, Some, None, IsSome}
use Rattle.ken_disk.specs.Story.{Story}
use Rattle.ken_memdisk.specs.declared.mem_disk.MemDisk.{MemDisk}
use Rattle.ken_store.specs.declared.store.Store.{Store}
use Rattle.ken_store.specs.Standing.{TakesCalls}
use Rattle.ken_rows_stores.specs.declared.stores.Stage.{Stage}
use Rattle.ken_rows_stores.specs.declared.stores.Stage.TheVariants.{Absent, Down, Idle, Begun}

abbrev pub told : MemDisk → Option Story
told d = Some d.held.story

abbrev pub size : MemDisk → ℕ
size d = length d.held.story.now.seen

-- a store that takes calls, with no turn begun
abbrev pub IsIdle : Store MemDisk → Type 0
IsIdle store = TakesCalls told size store × (store.turns.objects.begun ≡ None)

-- with a turn begun
abbrev pub IsBegun : Store MemDisk → Type 0
IsBegun store = TakesCalls told size store × IsSome store.turns.objects.begun

-- what the next call may take for granted
abbrev pub Stands : Stage → Type 0
Stands Absent = Unit {0}
Stands (Down disks) = Unit {0}
Stands (Idle store) = IsIdle store
Stands (Begun store) = IsBegun store

-- a node, of how many in its run, and the pages of its heap
abbrev pub IsNode : ℕ × ℕ × ℕ → Type 0
IsNode (node, nodes, pages) = (node < nodes) × (nodes ≤ 8) × (1 ≤ pages) × (pages ≤ 4096)
