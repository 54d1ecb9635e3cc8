use Rattle.std.proofs.Common.{◌≡◌, ◌+◌, ◌≤◌, ◌++◌, length, vec_len, vec_capacity}
use Rattle.ken_links.specs.Rings.{popped, known, nones, SamePopEnd}
use Rattle.ken_links.proofs.rings.move_known.Given as goal

abbrev pub invariant-loop : goal.invariant-loop
invariant-loop g l = record {
  end : SamePopEnd l.initial.pop l.pop × (nones l.pop ≡ nones l.initial.pop);
  popped : popped l.pop ++ known l.pop ≡ popped l.initial.pop ++ known l.initial.pop;
  list : l.into.items ++ known l.pop ≡ l.initial.into.items ++ known l.initial.pop;
  left : l.counter + length (known l.pop) ≡ length (known l.initial.pop);
  room : vec_len l.into + length (known l.pop) ≤ vec_capacity l.into;
  capacity : vec_capacity l.into ≡ vec_capacity l.initial.into;
}
