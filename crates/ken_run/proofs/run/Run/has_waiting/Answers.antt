-- Whether anything waits for a node.
use Rattle.std.proofs.Common.{◌≡◌, ℕ, inl, inr, refl, arith}
use Rattle.ken_model.specs.Network.{outside}
use Rattle.ken_flow.specs.Standstill.{waits_on}
use Rattle.ken_run.proofs.AtEnd.{below-made, may-work-too, none-waits, one-more}
use Rattle.ken_run.proofs.run.Run.has_waiting.Goals as goal

pub returns-then-has_input-clause-some : goal.returns-then-has_input-clause-some
returns-then-has_input-clause-some g c = λ yes game made is low all. record { from = outside; known = inr refl; waits = c.has_input.ensures.some c.if-has_input.true game made is low }

pub has_message-requires-clause-from : goal.has_message-requires-clause-from
has_message-requires-clause-from g c = may-work-too (λ w. g.D.Disk.told w.disk) (λ w. g.D.Disk.size w.disk) g.U.Outlet.took g.A.App.handler c.args.self.now c.args.node c.loop-from.from c.loop-from-test.true c.requires

pub returns-then-has_message-clause-some : goal.returns-then-has_message-clause-some
returns-then-has_message-clause-some g c = λ yes game made is low all.
    let below = below-made (λ w. g.D.Disk.told w.disk) (λ w. g.D.Disk.size w.disk) g.U.Outlet.took g.A.App.handler c.args.self.now game made c.loop-from.from is c.loop-from-test.true in
    record { from = c.loop-from.from; known = inl (omega (arith, below, all)); waits = c.has_message.ensures.some c.if-has_message.true game made is below low }

pub loop-from-preserved : goal.loop-from-preserved
loop-from-preserved g c = λ game made is low.
    let below = below-made (λ w. g.D.Disk.told w.disk) (λ w. g.D.Disk.size w.disk) g.U.Outlet.took g.A.App.handler c.args.self.now game made c.loop-from.from is c.loop-from-test.true in
    one-more (λ (u : ℕ). waits_on game is.nodes u c.args.node ≡ 0) c.loop-from.from (c.loop-from.invariant game made is low) (c.has_message.ensures.none c.if-has_message.false game made is below low)

pub returns-clause-none : goal.returns-clause-none
returns-clause-none g c = λ no game made is low all.
    let count = is.stands.count in
    let past = c.loop-from-test.false in
    none-waits game is.nodes c.args.node c.loop-from.from (omega (arith, count, past, all)) (c.has_input.ensures.none c.if-has_input.false game made is low) (λ u below known. c.loop-from.invariant game made is low u below)
