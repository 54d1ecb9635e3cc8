use Rattle.std.proofs.Common.{[], ◌∷◌}
use Rattle.ken_links_tests.proofs.wires.put_mail.Given as goal

abbrev pub ghosts-put_of : goal.ghosts-put_of
ghosts-put_of g a = record { sealed = a.message.now ∷ []; consumed = [] }
