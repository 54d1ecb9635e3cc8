-- Sends over the end of the externaliser.
use Rattle.ken_run.specs.Ends.{WerePut}
use Rattle.ken_run.proofs.Mapped.{may-call-at, ok-mapped, put-at, send-mapped}
use Rattle.ken_run.proofs.station.Station.send.Goals as goal

pub send-answer-requires : goal.send-answer-requires
send-answer-requires g c = may-call-at (λ w. g.D.Disk.told w.disk) (λ w. g.D.Disk.size w.disk) c.args.self.now.mail.from c.end_of-end.result.base.node c.args.waiting.now.mail c.end_of-end.result.base.puts c.args.self.now.node.stage c.end_of-end.ensures.node c.end_of-end.ensures.puts c.requires.may

pub returns-clause-steps : goal.returns-clause-steps
returns-clause-steps g c = λ game v n up from.
    ok-mapped c.send-answer.result
    (λ s. send-mapped (λ w. g.D.Disk.told w.disk) (λ w. g.D.Disk.size w.disk) game v n c.send-answer.new.self.stage _ (WerePut c.args.self.now.mail c.give_back.new.links c.args.waiting.now.mail c.give_back.new.puts) (λ ps x. put-at c.end_of-end.result.links c.send-answer.new.net.links c.args.self.now.mail c.give_back.new.links c.end_of-end.result.base.puts c.args.waiting.now.mail c.send-answer.new.net.base.puts c.give_back.new.puts ps c.end_of-end.ensures.links c.give_back.ensures.links c.end_of-end.ensures.puts c.give_back.ensures.puts x.links_are x.passed_on) s)
    (c.send-answer.ensures.steps game v n up)
