use Rattle.ken_check.proofs.Starting.{follows_start}
use Rattle.ken_check.proofs.reader.Reader.new.Goals as goal

pub returns : goal.returns
returns gen c =
    follows_start gen.P.Player.handler c.args.facts.now c.args.player.now c.args.most (record { actors = c.in_ok-start.field-0; checker = c.in_ok-new.field-0 }) (c.in_ok-new.ensures (gen.P.Player.handler c.args.player.now) c.requires.limits) c.in_ok-start.ensures.player c.in_ok-start.ensures.facts c.in_ok-start.ensures.start
