use Rattle.std.proofs.Common.{◌≡◌, ◌++◌, take, drop}
use Rattle.std.specs.Prelude.{map}
use Rattle.ken_net.specs.Puts.{alone}
use Rattle.ken_net.specs.Standings.{due, still}
use Rattle.ken_net.specs.Went.{Went}
use Rattle.ken_net.proofs.passing.pass_due.Given as goal

-- so many of the oldest have had their turn
abbrev pub invariant-loop-turn : goal.invariant-loop-turn
invariant-loop-turn g l = record {
  passed : Went g.B.Base.node g.B.Base.nodes g.B.Base.nones g.B.Base.put_between g.B.Base.given_between l.fn.base l.base (map (alone l.to) (due (take l._turn l.fn.kept.items)));
  kept : l.kept.items ≡ drop l._turn l.fn.kept.items ++ still (take l._turn l.fn.kept.items);
}
