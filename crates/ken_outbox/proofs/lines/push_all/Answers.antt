use Rattle.std.proofs.Common.{◌≡◌, ◌+◌, ◌∷◌, ◌∙◌, List, length, arith, ap, subst, sym, [], ◌<◌}
use Rattle.std.proofs.lemmas.List.{nil_from_length}
use Rattle.std.specs.Prelude.{map}
use Rattle.std.specs.VecDeque.{deque_len}
use Rattle.ken_model.specs.declared.messages.Message.{Message}
use Rattle.ken_outbox.specs.declared.line.Line.{Line}
use Rattle.ken_outbox.specs.Lines.{shown, HaveRoom}
use Rattle.ken_outbox.specs.Waiting.{AreFor, with_sends}
use Rattle.ken_outbox.proofs.Sends.{pushes, still_for, rooms, no_sends}
use Rattle.ken_outbox.proofs.lines.push_all.Goals as goal

pub loop-message-preserved : goal.loop-message-preserved
loop-message-preserved c =
    let lines : List Line = c.loop-message.lines in
    let m : Message = c.in-Some.message in
    let rest : List Message = c.pop_front.new.self.items in
    let parts : c.loop-message.sends.items ≡ m ∷ rest = c.in-Some.ensures.items in
    let fewer : deque_len c.loop-message.sends ≡ deque_len c.pop_front.new.self + 1 = omega (arith, c.in-Some.ensures.cases) in
    let to : c.from-to.result ≡ m.to = c.from-to.ensures in
    let known = subst (AreFor (length lines)) parts c.loop-message.invariant.known in
    let low : c.from-to.result < length lines = omega (arith, to, known.0) in
    record {
      known = still_for lines c.from-to.result c.push.new.self m rest known;
      room = rooms lines c.from-to.result (deque_len c.loop-message.sends) (deque_len c.pop_front.new.self) c.index-lines-to.result c.push.new.self m rest low to fewer c.push.ensures.room
          (subst (λ (ms : List Message). HaveRoom (deque_len c.loop-message.sends) ms lines) parts c.loop-message.invariant.room);
      whole = pushes lines c.from-to.result c.index-lines-to.result c.push.new.self m rest _ to low c.push.ensures.acked c.push.ensures.messages
          (ap (λ (ms : List Message). with_sends 0 (map shown lines) ms) (sym parts) ∙ c.loop-message.invariant.whole);
    }

pub returns-clause-lines : goal.returns-clause-lines
returns-clause-lines c =
    let none : c.loop-message.sends.items ≡ [] = nil_from_length c.loop-message.sends.items (omega (arith, c.in_default.ensures.cases, c.loop-message.sends.ok.0)) in
    sym (no_sends 0 (map shown c.loop-message.lines)) ∙ ap (λ (ms : List Message). with_sends 0 (map shown c.loop-message.lines) ms) (sym none) ∙ c.loop-message.invariant.whole
