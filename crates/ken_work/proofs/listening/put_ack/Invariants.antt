use Rattle.std.proofs.Common.{[], ◌∷◌}
use Rattle.ken_work.proofs.listening.put_ack.Given as goal

abbrev pub ghosts-put_as : goal.ghosts-put_as
ghosts-put_as g a = record { sealed = []; consumed = (a.to, a.through) ∷ [] }
