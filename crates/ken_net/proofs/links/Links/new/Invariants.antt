use Rattle.std.proofs.Common.{◌≡◌, ℕ, ◌<◌, length}
use Rattle.ken_net.specs.Acts.{act_of}
use Rattle.ken_net.specs.Standings.{link_to, act_at}
use Rattle.ken_net.proofs.Made.{IsFresh}
use Rattle.ken_net.proofs.links.Links.new.Given as goal

abbrev pub invariant-loop-to : goal.invariant-loop-to
invariant-loop-to l = record {
  long : length l.links.items ≡ l.to;
  acts : (v n : ℕ) → v < l.to → act_at n (link_to v l.links.items) ≡ act_of l.acts l.from v n;
  fresh : (v : ℕ) → IsFresh (link_to v l.links.items);
}
