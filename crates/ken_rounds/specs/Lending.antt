-- The workers of all nodes, lent to a round and brought back.
use Rattle.std.specs.Prelude.{◌≡◌, ◌≢◌, ℕ, ◌<◌, List, length, slice_index_or, Option, Some, None}
use Rattle.ken_disk.specs.declared.disk.Disk as disk
use Rattle.ken_net.specs.Standings.{KeepsOwn}
use Rattle.ken_node.specs.declared.watched.Watched.{Watched}
use Rattle.ken_node.specs.Stages.{IsCreated}
use Rattle.ken_run.specs.declared.station.Station.{Station}
use Rattle.ken_ship.specs.declared.faults.NodeFault.{NodeFault}
use Rattle.ken_ship.specs.declared.faults.NodeFault.TheVariants.{Memory}
use Rattle.ken_ship.specs.declared.worker.SendWorker.{SendWorker}
use Rattle.ken_work.specs.declared.patcher.PatchWorker.{PatchWorker}
use Rattle.ken_work.specs.declared.worker.TurnWorker.{TurnWorker}
use Rattle.ken_work.specs.Meeting.{AreJoined}
use Rattle.ken_beside.specs.Meetings.{HaveEmptied}
use Rattle.ken_threads.specs.declared.crew.Crew.{Crew}
use Rattle.ken_rounds.specs.declared.lending.Tally.{Tally}
use Rattle.ken_rounds.specs.Faults.{ComeTo}
use Rattle.ken_rounds.specs.Manned.{CameBack, IsMannedBy}

module _ {D O U : Type 0} where
  -- it has what a crew hasn't of a station
  pub record IsTallied (t : Tally) (s : Station D O U) : Type 0 where
    pub restarts : t.restarts ≡ s.restarts
    pub lines : t.lines ≡ s.lines

  -- what its links keep is its own
  pub record KeepOwn (s : Station D O U) : Type 0 where
    pub mail : KeepsOwn s.mail
    pub acks : KeepsOwn s.acks

  abbrev pub station_at : ℕ → List (Station D O U) → Station D O U → Station D O U
  station_at v stations none = slice_index_or stations v none

  -- the nodes of a list are all created
  abbrev pub AreAllCreated : List (Station D O U) → Type 0
  AreAllCreated stations = (v : ℕ) (none : Station D O U) → v < length stations → IsCreated (station_at v stations none).node.stage

  -- the crews of all nodes, by number
  pub record AreLent (stations : List (Station D O U)) (crews : List (Crew (Watched D) O U)) (tallies : List Tally) : Type 0 where
    pub count : length crews ≡ length stations
    pub tallied : length tallies ≡ length stations
    pub each : (v : ℕ) (s : Station D O U) (c : Crew (Watched D) O U) (t : Tally) → v < length stations
        → IsMannedBy (slice_index_or crews v c) (station_at v stations s) × IsTallied (slice_index_or tallies v t) (station_at v stations s) × KeepOwn (station_at v stations s)

  -- the workers of each are joined by their rings
  abbrev pub AreAllJoined : List (Crew (Watched D) O U) → Type 0
  AreAllJoined crews = (v : ℕ) (c : Crew (Watched D) O U) → v < length crews
      → AreJoined (slice_index_or crews v c).turns (slice_index_or crews v c).patches (slice_index_or crews v c).sends

  module _ (d : disk.Ghosts (Watched D)) where
    -- a crew has come back to a station; and where it didn't want memory its workers have met, and this is what its faults come to
    pub record HasCome (c : Crew (Watched D) O U) (tally : Tally) (s : Station D O U) (fault : Option NodeFault) : Type 0 where
      pub turns : TurnWorker (Watched D)
      pub patches : PatchWorker (Watched D)
      pub sends : SendWorker
      pub back : (old : Station D O U) → IsTallied tally old → CameBack c turns patches sends old s
      pub met : fault ≢ Some Memory → HaveEmptied d c.turns turns c.patches patches c.sends sends
      pub fault_is : fault ≢ Some Memory → ComeTo c.faults fault

    -- so has each of a list
    pub record HaveCome (crews : List (Crew (Watched D) O U)) (tallies : List Tally) (stations : List (Station D O U)) (faults : List (Option NodeFault)) : Type 0 where
      pub count : length stations ≡ length crews
      pub told : length faults ≡ length crews
      pub each : (v : ℕ) (c : Crew (Watched D) O U) (t : Tally) (s : Station D O U) → v < length crews
          → HasCome (slice_index_or crews v c) (slice_index_or tallies v t) (station_at v stations s) (slice_index_or faults v None)
