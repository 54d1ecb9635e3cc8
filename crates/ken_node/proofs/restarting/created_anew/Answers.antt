use Rattle.ken_node.proofs.restarting.created_anew.Goals as goal

pub returns-clause-creation : goal.returns-clause-creation
returns-clause-creation g c = λ game v disks u. record { answer = c.created-stage.result.1; is = c.none_made.ensures; creation = c.created-stage.ensures.creation game v disks u }

pub returns-clause-synced : goal.returns-clause-synced
returns-clause-synced g c = λ game v disks u tell. c.created-stage.ensures.synced game v disks u tell
