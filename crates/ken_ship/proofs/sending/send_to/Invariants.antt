use Rattle.std.proofs.Common.{◌≡◌, ◌≤◌, [], length, map, take, slice_index_or}
use Rattle.ken_outbox.specs.Waiting.{no_line}
use Rattle.ken_ship.specs.Parts.{due_in}
use Rattle.ken_ship.specs.Sending.{mail_put}
use Rattle.ken_ship.proofs.sending.send_to.Given as goal

abbrev pub invariant-loop-i : goal.invariant-loop-i
invariant-loop-i g l = record {
  end_is : (g.N.Net.node l.net ≡ g.N.Net.node l.fn.net) × (g.N.Net.nodes l.net ≡ g.N.Net.nodes l.fn.net);
  within : l.i ≤ length (slice_index_or (due_in l.backlog).lines l.to no_line).messages;
  put : g.N.Net.put_between l.fn.net l.net (map mail_put (take l.i (slice_index_or (due_in l.backlog).lines l.to no_line).messages));
  given : g.N.Net.given_between l.fn.net l.net [];
  nones : g.N.Net.nones l.net ≡ g.N.Net.nones l.fn.net;
}
