use Rattle.std.proofs.Common.{[], ◌∷◌}
use Rattle.ken_links_tests.proofs.wires.send.Given as goal

abbrev pub ghosts-put_as : goal.ghosts-put_as
ghosts-put_as g a = record { sealed = a.message.now ∷ []; consumed = [] }
