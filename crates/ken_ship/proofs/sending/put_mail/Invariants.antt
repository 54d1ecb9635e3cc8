use Rattle.std.proofs.Common.{[], ◌∷◌}
use Rattle.ken_ship.proofs.sending.put_mail.Given as goal

abbrev pub ghosts-put_as : goal.ghosts-put_as
ghosts-put_as g a = record { sealed = a.message.now ∷ []; consumed = [] }
