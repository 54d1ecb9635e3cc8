use Rattle.std.proofs.Common.{◌≡◌, []}
use Rattle.ken_ship.specs.Parts.{due_in}
use Rattle.ken_ship.proofs.Heard.{HeardSoFar}
use Rattle.ken_ship.proofs.hearing.hear_all.Given as goal

abbrev pub invariant-loop-taken : goal.invariant-loop-taken
invariant-loop-taken g l = record {
  node : l.backlog.node ≡ l.fn.backlog.node;
  handed : l.backlog.handed ≡ l.fn.backlog.handed;
  turns : l.backlog.turns.items ≡ [];
  heard : HeardSoFar l.fn.backlog.node l.nodes l._taken (g.N.Net.given_between l.fn.net l.net) (due_in l.fn.backlog) (due_in l.backlog);
  count : g.N.Net.nones l.net ≡ g.N.Net.nones l.fn.net;
  end_is : (g.N.Net.node l.net ≡ g.N.Net.node l.fn.net) × (g.N.Net.nodes l.net ≡ g.N.Net.nodes l.fn.net);
  put : g.N.Net.put_between l.fn.net l.net [];
}
