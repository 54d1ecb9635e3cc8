-- What rounds make of the outlets that refuse: each refusal counts, and the one that is once too often is heeded.
use Rattle.std.specs.Prelude.{◌≡◌, ◌⊎◌, ℕ, ◌+◌, ◌-◌, ◌^◌, ◌<◌, ◌≤◌, min, length, slice_index_or, Result, Ok, Err}
use Rattle.ken_node.specs.Stages.{emissions_in, refusals_in}
use Rattle.ken_ship.specs.declared.outlet.Outlet as outlet
use Rattle.ken_ship.specs.Fates.{Fate, Follows}
use Rattle.ken_run.specs.declared.faults.RunFault.{RunFault}
use Rattle.ken_run.specs.declared.faults.RunFault.TheVariants as run_faults
use Rattle.ken_run.specs.declared.run.Run.{Run}
use Rattle.ken_run.specs.declared.station.Station.{Station}
use Rattle.ken_run.specs.Refusals.{IsUsedUpOf}

-- just so many calls were made, where the count of them can still rise
abbrev pub CalledTimes : ℕ → Fate → Fate → Type 0
CalledTimes times old new = new.calls < 2 ^ 64 - 1 → new.calls ≡ old.calls + times

-- an outlet refused so many times and took nothing: it counted a fault in each call at least, and none where it wasn't called; one that tells
-- its calls was called just so often
pub record RefusedTimes {U : Type 0} (u : outlet.Ghosts U) (times : ℕ) (old new : U) : Type 0 where
  pub counted : min (u.faults old + times) (2 ^ 64 - 1) ≤ u.faults new
  pub uncounted : times ≡ 0 → u.faults new ≡ u.faults old
  pub called : Follows (CalledTimes times) (u.fate old) (u.fate new)

module _ {D O U : Type 0} where
  -- a node wasn't restarted and emitted nothing
  pub record StoodStill (old new : Station D O U) : Type 0 where
    pub restarts : new.restarts ≡ old.restarts
    pub emissions : length (emissions_in new.node.stage) ≡ length (emissions_in old.node.stage)

  -- then its count of refusals rose by one with each refusal of its outlet, but for so many that it doesn't count
  pub record IsHeeded (u : outlet.Ghosts U) (uncounted : ℕ) (old new : Station D O U) : Type 0 where
    pub tries : old.restarts ≤ new.restarts
    pub emitted : length (emissions_in old.node.stage) ≤ length (emissions_in new.node.stage)
    pub rises : StoodStill old new → refusals_in old.node.stage ≤ refusals_in new.node.stage
    pub refused :
        StoodStill old new
        → RefusedTimes u (refusals_in new.node.stage + uncounted - refusals_in old.node.stage) old.out new.out

  -- it counts 64 refusals, and its outlet refused once more
  pub record HasGivenOut (u : outlet.Ghosts U) (old new : Station D O U) : Type 0 where
    pub most : refusals_in new.node.stage ≡ 64
    pub heeded : IsHeeded u 1 old new

module _ {D O U A : Type 0} (u : outlet.Ghosts U) where
  -- each node of a run that is below a limit counts all refusals
  abbrev pub AreHeededBelow : ℕ → Run D O U A → Run D O U A → Type 0
  AreHeededBelow limit old new =
      (v : ℕ) (d : Station D O U) → v < limit
      → IsHeeded u 0 (slice_index_or old.stations.items v d) (slice_index_or new.stations.items v d)

  abbrev pub HasGivenOutAt : ℕ → Run D O U A → Run D O U A → Type 0
  HasGivenOutAt v old new =
      (d : Station D O U) → HasGivenOut u (slice_index_or old.stations.items v d) (slice_index_or new.stations.items v d)

  -- so does each node after Ok, and after `Down` each before the one that is named. Of that one a refusal more was made, and heeded; or it has
  -- used up its restarts. After want of memory nothing is said
  abbrev pub HeedsRounds : {T : Type 0} → Run D O U A → Result T RunFault → Run D O U A → Type 0
  HeedsRounds old (Ok x) new = AreHeededBelow (length old.stations.items) old new
  HeedsRounds old (Err (run_faults.Down v)) new =
      (v < length old.stations.items) × AreHeededBelow v old new × (HasGivenOutAt v old new ⊎ IsUsedUpOf v new)
  HeedsRounds old (Err run_faults.Memory) new = Unit {0}
  HeedsRounds old (Err (run_faults.Damaged v disk place)) new = ⊥
