use Rattle.std.proofs.Common.{refl}
use Rattle.ken_net.specs.LinkLaws as links
use Rattle.ken_wire.specs.NetLaws.{ends_join, ends_still, heard_joins, heard_still}
use Rattle.ken_threads.proofs.rounds.ends_over_wires.Goals as goal

pub returns : goal.returns
returns g c = record {
  node = λ x. refl;
  nodes = λ x. refl;
  width = λ x. x.to_each;
  hears = λ x y packets is. is;
  puts = λ x y ps is. is;
  put_still = λ x. links.put_still x.links x.base (ends_still x.base.sends.items);
  put_joins = λ x y z ps qs one two. links.put_joins (λ a b m xs ys first second. ends_join a.sends.items b.sends.items m.sends.items xs ys first second) one two;
  given_still = λ x. heard_still x.base.take;
  given_joins = λ x y z xs ys one two. heard_joins x.base.take y.base.take z.base.take xs ys one two;
}
