use Rattle.std.proofs.Common.{◌≡◌, ℕ, ◌<◌, length}
use Rattle.ken_wire.specs.Rounds.{AreNext, AreUnused}
use Rattle.ken_threads.specs.Wires.{ends_of, of_node}
use Rattle.ken_threads.proofs.Rows.{IsNewRow}
use Rattle.ken_threads.proofs.wiring.hand_out_all.Given as goal

abbrev pub invariant-loop-node : goal.invariant-loop-node
invariant-loop-node l = record {
  takers : length l.takes ≡ l.nodes;
  senders : length l.sends.items ≡ l.node;
  next : AreNext l.node l.takes;
  unused : AreUnused l.takes;
  rows : (v : ℕ) → v < l.node → IsNewRow l.nodes v l.takes (of_node v (ends_of l.sends.items));
}
