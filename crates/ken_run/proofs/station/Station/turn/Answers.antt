-- A turn over the end of the handler.
use Rattle.std.proofs.Common.{◌∙◌, ℕ, sym, subst}
use Rattle.ken_app.specs.Oracles.{Answers}
use Rattle.ken_node.specs.NodeTurns.{TurnStepsBy}
use Rattle.ken_run.specs.Ends.{WereGiven, WerePut}
use Rattle.ken_run.proofs.Mapped.{given-at, may-turn-at, put-at, turn-mapped}
use Rattle.ken_run.proofs.station.Station.turn.Goals as goal

pub turn-answer-requires : goal.turn-answer-requires
turn-answer-requires g c = may-turn-at (λ w. g.D.Disk.told w.disk) (λ w. g.D.Disk.size w.disk) (g.A.App.handler c.args.app.now) c.args.self.now.acks.from c.end_of-end.result.base.node c.args.waiting.now.acks c.end_of-end.result.base.puts c.args.self.now.node.stage c.end_of-end.ensures.node c.end_of-end.ensures.puts c.requires.may

pub returns-clause-steps : goal.returns-clause-steps
returns-clause-steps g c = λ game v n up from handled. (
  c.turn-answer.new.net.base.nones,
  subst (λ (k : ℕ). TurnStepsBy (λ w. g.D.Disk.told w.disk) (λ w. g.D.Disk.size w.disk) game v n (WereGiven v c.turn-answer.new.net.base.nones c.args.waiting.now.mail c.give_back.new.takes) (WerePut c.args.self.now.acks c.give_back.new.links c.args.waiting.now.acks c.give_back.new.puts) c.turn-answer.result (λ draws. Answers (g.O.Oracle.telling.clocks c.args.self.now.luck) (g.O.Oracle.telling.clocks c.turn-answer.new.oracle) ((g.A.App.handler c.args.app.now).clocks draws) × Answers (g.O.Oracle.telling.words c.args.self.now.luck) (g.O.Oracle.telling.words c.turn-answer.new.oracle) ((g.A.App.handler c.args.app.now).words draws)) k c.turn-answer.new.net.base.nones up.handler c.turn-answer.new.self.stage) c.end_of-end.ensures.nones
      (turn-mapped (λ w. g.D.Disk.told w.disk) (λ w. g.D.Disk.size w.disk) game v n _ (WereGiven v c.turn-answer.new.net.base.nones c.args.waiting.now.mail c.give_back.new.takes) _ (WerePut c.args.self.now.acks c.give_back.new.links c.args.waiting.now.acks c.give_back.new.puts)
      (λ ps x. given-at c.end_of-end.result.base.node v c.end_of-end.result.base.nones c.turn-answer.new.net.base.nones c.end_of-end.result.base.takes c.args.waiting.now.mail c.turn-answer.new.net.base.takes c.give_back.new.takes ps (c.end_of-end.ensures.node ∙ sym from) c.end_of-end.ensures.nones c.end_of-end.ensures.takes c.give_back.ensures.takes x.1)
      (λ ps x. put-at c.end_of-end.result.links c.turn-answer.new.net.links c.args.self.now.acks c.give_back.new.links c.end_of-end.result.base.puts c.args.waiting.now.acks c.turn-answer.new.net.base.puts c.give_back.new.puts ps c.end_of-end.ensures.links c.give_back.ensures.links c.end_of-end.ensures.puts c.give_back.ensures.puts x.links_are x.passed_on)
      _ c.end_of-end.result.base.nones c.turn-answer.new.net.base.nones up.handler c.turn-answer.new.self.stage c.turn-answer.result (c.turn-answer.ensures.steps game v n up handled)),
)
