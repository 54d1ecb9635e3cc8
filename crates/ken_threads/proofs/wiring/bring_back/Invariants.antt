use Rattle.std.proofs.Common.{ℕ, List}
use Rattle.std.specs.Vec.Iter.{into_iter_items}
use Rattle.ken_wire.specs.declared.send_end.SendEnd.{SendEnd}
use Rattle.ken_threads.specs.Wires.{AreWired, ends_of}
use Rattle.ken_threads.proofs.Back.{AreBackBut}
use Rattle.ken_threads.proofs.wiring.bring_back.Given as goal

abbrev pub invariant-loop-ends : goal.invariant-loop-ends
invariant-loop-ends l =
    (n : ℕ) → AreWired n l.initial.takes (ends_of l.fn.sends.items)
    → (done : List (List SendEnd)) × AreBackBut n l.initial.takes (ends_of l.fn.sends.items) done (ends_of (into_iter_items l.ends-iterator)) l.takes
