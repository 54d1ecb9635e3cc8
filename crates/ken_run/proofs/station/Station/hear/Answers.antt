-- Acknowledgements over the end of the externaliser.
use Rattle.std.proofs.Common.{◌∙◌, ℕ, sym, subst}
use Rattle.ken_node.specs.NodeCalls.{HearSteps}
use Rattle.ken_run.specs.Ends.{WereGiven}
use Rattle.ken_run.proofs.Mapped.{given-at, hear-mapped, may-call-at, ok-mapped}
use Rattle.ken_run.proofs.station.Station.hear.Goals as goal

pub hear-answer-requires : goal.hear-answer-requires
hear-answer-requires g c = may-call-at (λ w. g.D.Disk.told w.disk) (λ w. g.D.Disk.size w.disk) c.args.self.now.mail.from c.end_of-end.result.base.node c.args.waiting.now.mail c.end_of-end.result.base.puts c.args.self.now.node.stage c.end_of-end.ensures.node c.end_of-end.ensures.puts c.requires.may

pub returns-clause-steps : goal.returns-clause-steps
returns-clause-steps g c = λ game v n up from. (
  c.hear-answer.new.net.base.nones,
  ok-mapped c.hear-answer.result
      (λ s. subst (λ (k : ℕ). HearSteps (λ w. g.D.Disk.told w.disk) (λ w. g.D.Disk.size w.disk) game v n (WereGiven v c.hear-answer.new.net.base.nones c.args.waiting.now.acks c.give_back.new.takes) k c.hear-answer.new.net.base.nones c.hear-answer.new.self.stage) c.end_of-end.ensures.nones
      (hear-mapped (λ w. g.D.Disk.told w.disk) (λ w. g.D.Disk.size w.disk) game v n c.hear-answer.new.self.stage _ (WereGiven v c.hear-answer.new.net.base.nones c.args.waiting.now.acks c.give_back.new.takes) c.end_of-end.result.base.nones c.hear-answer.new.net.base.nones (λ ps x. given-at c.end_of-end.result.base.node v c.end_of-end.result.base.nones c.hear-answer.new.net.base.nones c.end_of-end.result.base.takes c.args.waiting.now.acks c.hear-answer.new.net.base.takes c.give_back.new.takes ps (c.end_of-end.ensures.node ∙ sym from) c.end_of-end.ensures.nones c.end_of-end.ensures.takes c.give_back.ensures.takes x.1) s))
      (c.hear-answer.ensures.steps game v n up),
)
