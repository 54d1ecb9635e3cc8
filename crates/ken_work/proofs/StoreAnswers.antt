-- A store's answer as a worker's, and back.
use Rattle.std.proofs.Common.{◌≡◌, Result, Ok, Err, refl, ap}
use Rattle.ken_store.specs.declared.faults.StoreFault.{StoreFault}
use Rattle.ken_store.specs.declared.faults.StoreFault.TheVariants.{Disk, Memory, Damaged}
use Rattle.ken_work.specs.Faults.{node_answer, store_answer}

pub store_answer-node_answer : {T : Type 0} (r : Result T StoreFault) → store_answer (node_answer r) ≡ r
store_answer-node_answer (Ok x) = refl
store_answer-node_answer (Err Disk) = refl
store_answer-node_answer (Err Memory) = refl
store_answer-node_answer (Err (Damaged disk place)) = refl

-- what a worker answers well the store did
pub was_ok : {T : Type 0} (r : Result T StoreFault) (x : T) → node_answer r ≡ Ok x → r ≡ Ok x
was_ok (Ok y) x is = let same : y ≡ x = cc in ap Ok same
was_ok (Err Disk) x is = absurd cc
was_ok (Err Memory) x is = absurd cc
was_ok (Err (Damaged disk place)) x is = absurd cc
