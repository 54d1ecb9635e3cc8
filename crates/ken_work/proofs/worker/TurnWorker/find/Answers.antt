use Rattle.std.proofs.Common.{ℕ, List, sym, subst}
use Rattle.ken_model.specs.declared.messages.Message.{Message}
use Rattle.ken_work.specs.Calls.{TakesMessage}
use Rattle.ken_work.specs.News.{AreInputs}
use Rattle.ken_work.proofs.Finding.{takes_input, input_may}
use Rattle.ken_work.proofs.worker.TurnWorker.find.Goals as goal

pub returns-in-Some-clause-message : goal.returns-in-Some-clause-message
returns-in-Some-clause-message g c = rw c.in-Some.is at c.in_ok-message.ensures.message

pub returns-in-None-clause-takes : goal.returns-in-None-clause-takes
returns-in-None-clause-takes g c =
    let w = c.args.self.now in
    let gave = g.N.Net.given_between c.args.net.now c.listen.new.net in
    let put = g.N.Net.put_between c.args.net.now c.listen.new.net in
    let nones : ℕ = g.N.Net.nones c.args.net.now in
    let nones2 : ℕ = g.N.Net.nones c.listen.new.net in
    subst (λ (ms : List Message). TakesMessage w.node w.order ms gave put nones nones2 c.next_input.result) c.as_slice.ensures.value
    (takes_input w.node w.order c.as_slice.result.now gave put nones nones2 c.next_input.result (rw c.in-None.is at c.in_ok-message.ensures.listens) c.next_input.ensures.chosen c.next_input.ensures.waits)

pub returns-in-None-clause-message : goal.returns-in-None-clause-message
returns-in-None-clause-message g c =
    let w = c.args.self.now in
    input_may w.node w.order c.as_slice.result.now c.next_input.result (subst (AreInputs w.node) (sym c.as_slice.ensures.value) w.given) c.next_input.ensures.chosen
