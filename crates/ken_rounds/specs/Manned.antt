-- The station of a node whose workers are lent to a round and come back.
use Rattle.std.specs.Prelude.{◌≡◌}
use Rattle.ken_run.specs.declared.station.Station.{Station}
use Rattle.ken_node.specs.declared.stage.Stage.TheVariants.{Created}
use Rattle.ken_node.specs.declared.watched.Watched.{Watched}
use Rattle.ken_ship.specs.declared.worker.SendWorker.{SendWorker}
use Rattle.ken_work.specs.declared.patcher.PatchWorker.{PatchWorker}
use Rattle.ken_work.specs.declared.worker.TurnWorker.{TurnWorker}
use Rattle.ken_threads.specs.declared.crew.Crew.{Crew}

module _ {D O U : Type 0} where
  -- a crew has all of a station but how often it was restarted
  pub record IsMannedBy (c : Crew (Watched D) O U) (s : Station D O U) : Type 0 where
    pub stage : s.node.stage ≡ Created c.turns c.patches c.sends
    pub luck : s.luck ≡ c.oracle
    pub out : s.out ≡ c.outlet
    pub mail : s.mail ≡ c.mail
    pub acks : s.acks ≡ c.acks

  -- and has come back to it, by workers that have met since
  pub record CameBack (c : Crew (Watched D) O U) (t : TurnWorker (Watched D)) (p : PatchWorker (Watched D)) (s : SendWorker) (old new : Station D O U) : Type 0 where
    pub stage : new.node.stage ≡ Created t p s
    pub luck : new.luck ≡ c.oracle
    pub out : new.out ≡ c.outlet
    pub mail : new.mail ≡ c.mail
    pub acks : new.acks ≡ c.acks
    pub restarts : new.restarts ≡ old.restarts
    pub lines : new.lines ≡ old.lines
