use Rattle.ken_actors.specs.Playing.{game_for}
use Rattle.ken_top.proofs.Coming.{long_judged, report_of}
use Rattle.ken_top.proofs.checking.report_judged.Goals as goal

pub returns-then-is_long-clause-refused : goal.returns-then-is_long-clause-refused
returns-then-is_long-clause-refused g c = long_judged c.args.room _ _ c.in_ok-count.count c.in_ok-count.ensures.ended _ _ c.in_ok-count.ensures.judged (c.is_long.ensures.0 c.if-is_long.true)

pub returns-clause-judged : goal.returns-clause-judged
returns-clause-judged g c =
    let h = g.C.Player.Player.handler c.player-player.result in
    let facts = c.args.script.now.facts in
    report_of c.args.room _ _ c.in_ok-count.count c.in_ok-count.ensures.ended c.kinds_are_decided.ensures (g.C.Cast.program c.args.cast) c.args.script.now h _ _ c.verdict.result c.in_ok-count.ensures.judged c.in_ok-count.ensures.few c.requires.few
    (λ long. (let yes = c.is_long.ensures.1 long in let no = c.if-is_long.false in absurd cc)) c.in_ok-judging.ensures (λ seen read few. c.verdict.ensures (game_for h facts) c.args.script.now.restarts seen read few) c.player-player.ensures
