use Rattle.std.proofs.Common.{refl}
use Rattle.ken_check.proofs.Naming.{heard_emission, heard_end, heard_heap, heard_none, heard_restart, heard_turn, none_heard, other_tested, tested_word}
use Rattle.ken_check.proofs.reader.Reader.line.Goals as goal

pub returns-in_default : goal.returns-in_default
returns-in_default gen c = λ g most. none_heard gen.P.Player.handler g most c.args.self.now c.args.self.now c.args.text.now c.in_default.ensures

pub returns-then-eq : goal.returns-then-eq
returns-then-eq gen c = λ g most. heard_turn gen.P.Player.handler g most _ _ c.args.text.now _ (tested_word _ _ _ _ _ c.in-Some.ensures c.as_slice.ensures c.eq.ensures c.if-eq.true) (c.turn.ensures g most)

pub returns-then-eq-2 : goal.returns-then-eq-2
returns-then-eq-2 gen c = λ g most. heard_emission gen.P.Player.handler g most _ _ c.args.text.now _ (tested_word _ _ _ _ _ c.in-Some.ensures c.as_slice-else-eq.ensures c.eq-else-eq.ensures c.if-eq-2.true) refl (c.emission.ensures g most)

pub returns-then-eq-3 : goal.returns-then-eq-3
returns-then-eq-3 gen c = λ g most. heard_restart gen.P.Player.handler g most _ _ c.args.text.now _ (tested_word _ _ _ _ _ c.in-Some.ensures c.as_slice-else-eq-2.ensures c.eq-else-eq-2.ensures c.if-eq-3.true) refl (c.restart.ensures g most)

pub returns-then-eq-4 : goal.returns-then-eq-4
returns-then-eq-4 gen c = λ g most. heard_heap gen.P.Player.handler g most _ _ c.args.text.now _ (tested_word _ _ _ _ _ c.in-Some.ensures c.as_slice-else-eq-3.ensures c.eq-else-eq-3.ensures c.if-eq-4.true) (c.heap.ensures g most)

pub returns-then-eq-5 : goal.returns-then-eq-5
returns-then-eq-5 gen c = λ g most. heard_end gen.P.Player.handler g most _ _ c.args.text.now _ (tested_word _ _ _ _ _ c.in-Some.ensures c.as_slice-else-eq-4.ensures c.eq-else-eq-4.ensures c.if-eq-5.true) refl (c.end.ensures g most)

pub returns-else-eq-5 : goal.returns-else-eq-5
returns-else-eq-5 gen c = λ g most. heard_none gen.P.Player.handler g most c.args.self.now c.args.self.now c.args.text.now
    (other_tested _ _ _ _ _ c.in-Some.ensures c.as_slice.ensures c.eq.ensures c.if-eq.false)
    (other_tested _ _ _ _ _ c.in-Some.ensures c.as_slice-else-eq.ensures c.eq-else-eq.ensures c.if-eq-2.false)
    (other_tested _ _ _ _ _ c.in-Some.ensures c.as_slice-else-eq-2.ensures c.eq-else-eq-2.ensures c.if-eq-3.false)
    (other_tested _ _ _ _ _ c.in-Some.ensures c.as_slice-else-eq-3.ensures c.eq-else-eq-3.ensures c.if-eq-4.false)
    (other_tested _ _ _ _ _ c.in-Some.ensures c.as_slice-else-eq-4.ensures c.eq-else-eq-4.ensures c.if-eq-5.false)
