use Rattle.std.proofs.Common.{ℕ, sym, subst, rules}
use Rattle.crossbeam_queue.specs.Passes.{view, ruled_capacity}
use Rattle.ken_net.specs.Puts.{MayPut}
use Rattle.ken_wire.proofs.Steps.{sends}
use Rattle.ken_wire.proofs.Calls.{still_sends}
use Rattle.ken_wire.proofs.send_end.SendEnd.put.Goals as goal

pub push_as-answer-requires-clause-rule : goal.push_as-answer-requires-clause-rule
push_as-answer-requires-clause-rule g c =
    let s = c.args.self.now in
    let may = subst (λ (k : ℕ). MayPut k s.to g.H.Handed.sealed g.H.Handed.consumed c.args.bytes) (sym s.node) c.requires in
    (sends (ruled_capacity c.deref.result.now) s.pass.id (view s.pass) c.args.bytes s.to g.H.Handed.sealed g.H.Handed.consumed s.sends may, λ _ _ _ _. tt)

pub invariant_of-self : goal.invariant_of-self
invariant_of-self g c =
    let s = c.args.self.now in
    let still = still_sends c.push_as-answer.result c.args.bytes _ s.from s.to g.H.Handed.sealed g.H.Handed.consumed c.args.bytes (view s.pass) (view c.push_as-answer.new.pass) c.push_as-answer.ensures.rule (s.sends, s.node, s.aimed) c.requires in
    record { tied = search rules; size = s.size; sends = still.0; node = still.1; aimed = still.2 }

pub invariant_of-self-else-is_err : goal.invariant_of-self-else-is_err
invariant_of-self-else-is_err g c =
    let s = c.args.self.now in
    let still = still_sends c.push_as-answer.result c.args.bytes _ s.from s.to g.H.Handed.sealed g.H.Handed.consumed c.args.bytes (view s.pass) (view c.push_as-answer.new.pass) c.push_as-answer.ensures.rule (s.sends, s.node, s.aimed) c.requires in
    record { tied = search rules; size = s.size; sends = still.0; node = still.1; aimed = still.2 }
