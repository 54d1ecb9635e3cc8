-- How the devices of a run are given back.
use Rattle.std.specs.Prelude.{◌≡◌, ℕ, ◌<◌, ◌≤◌, length, slice_index_or, Option, Some}
use Rattle.ken_store.specs.declared.disks.Disks.{Disks}
use Rattle.ken_node.specs.declared.watched.Watched.{Watched}
use Rattle.ken_node.specs.Stages.{HasDisks}
use Rattle.ken_run.specs.declared.run.Run.{Run}
use Rattle.ken_run.specs.declared.station.Station.{Station}

module _ {D : Type 0} where
  -- the disks of a node without their watch
  abbrev pub unwatched : Disks (Watched D) → Disks D
  unwatched disks = record { log = disks.log.disk; image = disks.image.disk; second = disks.second.disk }

  -- the disks that a station's node has, its oracle and its outlet were kept
  pub record WasKept {O U : Type 0} (s : Station D O U) (kept : Option (Disks D × O × U)) : Type 0 where
    pub disks : Disks (Watched D)
    pub has : HasDisks disks s.node.stage
    pub is : kept ≡ Some (unwatched disks, s.luck, s.out)

  -- so of each station of a run, and nothing else was kept since
  pub record WereKept {O U A : Type 0} (r : Run D O U A) (old new : ℕ → Option (Disks D × O × U)) : Type 0 where
    pub given : (v : ℕ) (d : Station D O U) → v < length r.stations.items
        → WasKept (slice_index_or r.stations.items v d) (new v)
    pub others : (v : ℕ) → length r.stations.items ≤ v → new v ≡ old v
