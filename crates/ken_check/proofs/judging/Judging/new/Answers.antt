use Rattle.std.proofs.Common.{refl}
use Rattle.ken_check.proofs.Pieces.{read_none}
use Rattle.ken_check.proofs.judging.Judging.new.Goals as goal

pub returns : goal.returns
returns gen c = read_none gen.P.Player.handler _ c.args.restarts _ c.in_ok-new.ensures refl c.new-2.ensures.items refl
