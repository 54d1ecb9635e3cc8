use Rattle.std.proofs.Common.{◌≡◌, ℕ, true, subst, ◌∙◌, rules}
use Rattle.ken_wire.specs.Aims.{all_go_to}
use Rattle.crossbeam_queue.specs.Passes.{view}
use Rattle.ken_wire.proofs.Steps.{merges}
use Rattle.ken_wire.proofs.Calls.{still_takes}
use Rattle.ken_wire.proofs.take_end.TakeEnd.join.Goals as goal

pub absorb-requires-clause-rule : goal.absorb-requires-clause-rule
absorb-requires-clause-rule c =
    let s = c.args.self.now in
    let e = c.args.end in
    rw c.into_pass.ensures (merges s.pass.id (view s.pass) e.pass.id (view e.pass) s.takes e.sends (e.node ∙ c.requires.next))

pub invariant_of-self : goal.invariant_of-self
invariant_of-self c =
    let s = c.args.self.now in
    let e = c.args.end in
    let aimed = subst (λ (k : ℕ). all_go_to k (view e.pass).sent.put ≡ true) c.requires.wire.1 e.aimed in
    let still = still_takes s.to s.made (view e.pass).sent (view s.pass) (view c.absorb.new.pass) (rw (← c.into_pass.ensures) c.absorb.ensures.rule) (s.takes, s.count, s.aimed) aimed in
    record { tied = search rules; size = s.size; takes = still.0; count = still.1; aimed = still.2 }
