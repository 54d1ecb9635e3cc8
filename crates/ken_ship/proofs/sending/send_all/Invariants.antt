use Rattle.std.proofs.Common.{◌≡◌, [], map}
use Rattle.ken_ship.specs.Parts.{due_in}
use Rattle.ken_ship.specs.Sending.{mail_put, all_due}
use Rattle.ken_ship.proofs.sending.send_all.Given as goal

abbrev pub invariant-loop-to : goal.invariant-loop-to
invariant-loop-to g l = record {
  end_is : (g.N.Net.node l.net ≡ g.N.Net.node l.fn.net) × (g.N.Net.nodes l.net ≡ g.N.Net.nodes l.fn.net);
  put : g.N.Net.put_between l.fn.net l.net (map mail_put (all_due l.to (due_in l.backlog).lines));
  given : g.N.Net.given_between l.fn.net l.net [];
  nones : g.N.Net.nones l.net ≡ g.N.Net.nones l.fn.net;
}
