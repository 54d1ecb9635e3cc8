use Rattle.ken_top.proofs.incoming.judge_piece.Goals as goal

pub returns-clause-under_way : goal.returns-clause-under_way
returns-clause-under_way g c =
    let u = c.requires.under_way in
    record { game = u.game; most = u.most; seen = _; read = c.in_ok-read.ensures u.game u.most u.seen u.read }
