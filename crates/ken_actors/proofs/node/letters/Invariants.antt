use Rattle.std.proofs.Common.{◌≡◌, ◌++◌, map}
use Rattle.std.specs.Vec.Iter.{into_iter_items}
use Rattle.ken_actors.specs.Letters.{send_of, copy_of}
use Rattle.ken_actors.proofs.node.letters.Given as goal

abbrev pub invariant-loop-send : goal.invariant-loop-send
invariant-loop-send l = record {
  sends : map send_of l.letters.items ++ into_iter_items l.send-iterator ≡ l.fn.sends.items;
  copies : map copy_of l.letters.items ++ into_iter_items l.send-iterator ≡ l.fn.sends.items;
}
