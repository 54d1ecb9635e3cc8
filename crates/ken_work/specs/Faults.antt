-- The answers of a store and of a worker.
use Rattle.std.specs.Prelude.{Result, Ok, Err}
use Rattle.ken_store.specs.declared.faults.StoreFault.{StoreFault}
use Rattle.ken_store.specs.declared.faults.StoreFault.TheVariants as store
use Rattle.ken_ship.specs.declared.faults.NodeFault.{NodeFault}
use Rattle.ken_ship.specs.declared.faults.NodeFault.TheVariants.{Disk, Damaged, Outlet, Memory}

abbrev pub node_answer : {T : Type 0} → Result T StoreFault → Result T NodeFault
node_answer (Ok x) = Ok x
node_answer (Err store.Disk) = Err Disk
node_answer (Err store.Memory) = Err Memory
node_answer (Err (store.Damaged disk place)) = Err (Damaged disk place)

-- what of a worker's answer is the store's
abbrev pub store_answer : {T : Type 0} → Result T NodeFault → Result T StoreFault
store_answer (Ok x) = Ok x
store_answer (Err Disk) = Err store.Disk
store_answer (Err Memory) = Err store.Memory
store_answer (Err Outlet) = Err store.Memory
store_answer (Err (Damaged disk place)) = Err (store.Damaged disk place)

-- a fault of a worker's call: that a disk is damaged only a restart says, and that an output was refused too often only an emission
abbrev pub IsFaultOfWorker : {T : Type 0} → Result T NodeFault → Type 0
IsFaultOfWorker (Ok x) = Unit {0}
IsFaultOfWorker (Err Disk) = Unit {0}
IsFaultOfWorker (Err Memory) = Unit {0}
IsFaultOfWorker (Err Outlet) = ⊥
IsFaultOfWorker (Err (Damaged disk place)) = ⊥
