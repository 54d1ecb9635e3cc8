use Rattle.std.proofs.Common.{◌≡◌, ◌≤◌, length}
use Rattle.ken_model.specs.Kinds.{to_others}
use Rattle.ken_app.specs.Turning.{turning, oracle_of, IsOneTurn}
use Rattle.ken_apps.proofs.tally.send_to_others.Given as goal

-- the nodes so far have their messages
abbrev pub invariant-loop-to : goal.invariant-loop-to
invariant-loop-to g l = record {
  so_far : turning l.turn ≡ record (turning l.fn.turn) { sends = to_others (turning l.fn.turn).node l.to l.text };
  few : length (turning l.turn).sends ≤ l.to;
  oracle : oracle_of l.turn ≡ oracle_of l.fn.turn;
  same : IsOneTurn l.fn.turn l.turn;
}
