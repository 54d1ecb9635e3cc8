use Rattle.ken_weave.proofs.Keeping.{kept}
use Rattle.ken_weave.proofs.laws.order_keeps.Goals as goal

pub returns : goal.returns
returns g c =
    let f = g.F.Fact in
    λ keeps t t2 p p2 s s2 ts ps ss. kept f.turn f.patch f.send f.rings f.fact keeps t t2 p p2 s s2 ts ps ss
