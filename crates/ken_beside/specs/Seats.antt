-- Workers of a node with what they work on.
use Rattle.ken_ship.specs.declared.worker.SendWorker.{SendWorker}
use Rattle.ken_work.specs.declared.worker.TurnWorker.{TurnWorker}

-- a handler, with its end of a network and its oracle
pub record Handling (D N O : Type 0) : Type 0 where
  pub worker : TurnWorker D
  pub net : N
  pub oracle : O

-- an externaliser, with its end of a network and its outlet
pub record Sending (N U : Type 0) : Type 0 where
  pub worker : SendWorker
  pub net : N
  pub outlet : U
