use Rattle.std.proofs.Common.{length, sym, ◌∙◌, arith}
use Rattle.std.proofs.lemmas.Result.{IfOk-at_ok}
use Rattle.ken_files.proofs.Pieces.{front_written, ok_alike}
use Rattle.ken_files.proofs.copying.copy_piece.Goals as goal

pub returns-clause-front : goal.returns-clause-front
returns-clause-front g c =
    ok_alike c.write.result c.map_err-2.result _ c.map_err-2.ensures.variant (front_written c.args.at (length c.args.piece.now) c.read.new.buf c.write.result (g.D.Disk.told c.read.new.self) _ _ c.write.ensures.story
    (λ h told. let size = g.met.D.Disk.sized _ h told in omega (arith, size, c.requires.there, c.read.ensures.size))
    (λ h told. IfOk-at_ok (λ _. _) c.in_ok-map_err.was (ok_alike c.read.result c.map_err.result _ c.map_err.ensures.variant (c.read.ensures.bytes h (sym c.read.ensures.story ∙ told))))
    (λ h told. c.requires.front h (sym c.read.ensures.story ∙ told)))
