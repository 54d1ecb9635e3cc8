-- A soak run's script lets no node go down: it has few cuts, and no call of an outlet fails.
use Rattle.std.proofs.Common.{◌≡◌, ℕ, zero, suc, ◌≤◌, ⊎_elim, List, [], ◌∷◌, ◌++◌, length, Bool, true, false, ◌==◌, ◌&&◌, if◌then◌else◌, refl, arith}
use Rattle.std.specs.List.{Contains, filter, list_any}
use Rattle.std.proofs.lemmas.List.{length-map}
use Rattle.std.proofs.lemmas.List.Sums.{count_by-le-length, length-filter}
use Rattle.ken_script.specs.declared.scripts.DiskCut.{DiskCut}
use Rattle.ken_run.specs.declared.faults.RunFault.{RunFault}
use Rattle.ken_run.specs.declared.faults.RunFault.TheVariants.{Damaged, Down, Memory}
use Rattle.ken_drive.specs.Sparing.{FailsInARow, IsLetBy, IsSpared}
use Rattle.ken_drive.specs.Starting.{cut_of, cuts_for}
use Rattle.ken_gen.specs.Generated.{script_of}
use Rattle.ken_gen.specs.Inputs.{past_inputs}
use Rattle.ken_gen.specs.Mishaps.{cuts_from, is_same_call, past_cut, without_repeats}

-- what is left of a list is no longer
left_few : {T : Type 0} (is_same : T → T → Bool) (earlier xs : List T) → length (without_repeats is_same earlier xs) ≤ length xs
unfolding without_repeats
left_few is_same earlier [] = omega arith
left_few is_same earlier (x ∷ xs) =
    elim (list_any (is_same x) earlier) as (λ b. length (if b then without_repeats is_same earlier xs else x ∷ without_repeats is_same (earlier ++ x ∷ []) xs) ≤ suc (length xs)) [
      | true ↦ omega (arith, left_few is_same earlier xs)
      | false ↦ omega (arith, left_few is_same (earlier ++ x ∷ []) xs)
    ]

cuts_length : (nodes count x : ℕ) → length (cuts_from nodes count x) ≡ count
unfolding cuts_from
cuts_length nodes zero x = refl
cuts_length nodes (suc count) x = omega (arith, cuts_length nodes count (past_cut x))

-- no more are a disk's
own_few : (v disk : ℕ) (cuts : List DiskCut) → length (cuts_for v disk cuts) ≤ length cuts
own_few v disk cuts =
    let own : DiskCut → Bool = λ (c : DiskCut). c.node == v && c.disk == disk in
    omega (arith, length-map (filter own cuts) cut_of, length-filter own cuts, count_by-le-length own cuts)

never : FailsInARow [] → ⊥
never fails = one (fails.each fails.first (omega arith) (omega arith))
  where
    one : {call : ℕ} → Contains [] call → ⊥
    one has = absurd (omega (arith, has.1))

pub spared : (seed nodes inputs rounds : ℕ) → IsSpared (script_of seed nodes inputs rounds)
spared seed nodes inputs rounds v lets =
    let cuts : List DiskCut = without_repeats is_same_call [] (cuts_from nodes 6 (past_inputs inputs seed)) in
    let few = left_few is_same_call [] (cuts_from nodes 6 (past_inputs inputs seed)) in
    ⊎_elim (λ more. omega (arith, more, own_few v 0 cuts, own_few v 1 cuts, own_few v 2 cuts, few, cuts_length nodes 6 (past_inputs inputs seed))) never lets

-- so what is left of a run's faults is want of memory
pub only_memory : (seed nodes inputs rounds : ℕ) (fault : RunFault) → IsLetBy (script_of seed nodes inputs rounds) fault → fault ≡ Memory
only_memory seed nodes inputs rounds (Down v) lets = absurd (spared seed nodes inputs rounds v lets)
only_memory seed nodes inputs rounds Memory lets = refl
only_memory seed nodes inputs rounds (Damaged v disk place) lets = absurd lets
