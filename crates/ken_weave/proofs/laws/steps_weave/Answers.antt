use Rattle.ken_weave.proofs.Weave.{woven}
use Rattle.ken_weave.proofs.laws.steps_weave.Goals as goal

pub returns : goal.returns
returns g c =
    let w = g.W.Workers in
    λ rules settled progress t t2 p p2 s s2 ts ps ss. woven w.turn w.patch w.send w.to_patcher w.patcher w.to_sender w.sender w.settled_by w.told_by rules settled progress t t2 p p2 s s2 ts ps ss
