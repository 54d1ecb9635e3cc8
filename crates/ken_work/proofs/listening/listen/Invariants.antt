use Rattle.std.proofs.Common.{◌≡◌}
use Rattle.ken_work.proofs.Passing.{PassedSoFar}
use Rattle.ken_work.proofs.listening.listen.Given as goal

abbrev pub invariant-loop-taken : goal.invariant-loop-taken
invariant-loop-taken g l = record {
  heard : PassedSoFar l.node l.order l._taken (g.N.Net.given_between l.fn.net l.net) (g.N.Net.put_between l.fn.net l.net);
  count : g.N.Net.nones l.net ≡ g.N.Net.nones l.fn.net;
  end_is : (g.N.Net.node l.net ≡ g.N.Net.node l.fn.net) × (g.N.Net.nodes l.net ≡ g.N.Net.nodes l.fn.net);
}
