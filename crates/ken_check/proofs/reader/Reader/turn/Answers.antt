use Rattle.std.proofs.Common.{sym, ◌∙◌}
use Rattle.ken_check.proofs.Reading.{heard_no_step, heard_step}
use Rattle.ken_check.proofs.reader.Reader.turn.Goals as goal

pub returns-in-Some : goal.returns-in-Some
returns-in-Some gen c = λ g most. heard_step gen.P.Player.handler g most c.args.self.now _ c.args.text.now c.in-Some.step c.step.result (λ x words. sym c.in-Some.is ∙ c.in_ok-step.ensures x words) (c.step.ensures g most)

pub returns-in-None : goal.returns-in-None
returns-in-None gen c = λ g most. heard_no_step gen.P.Player.handler g most c.args.self.now c.args.self.now c.args.text.now c.in_ok-step.field-0 c.in-None.is (λ x words. c.in_ok-step.ensures x words)
