use Rattle.std.proofs.Common.{sym, arith}
use Rattle.ken_gen.proofs.Followed.{counted_none}
use Rattle.ken_gen.proofs.walks.total_at.Goals as goal

pub loop-input-init : goal.loop-input-init
loop-input-init c = record {
  turns = sym (counted_none (λ v. 1) c.args.nodes c.args.place);
  root = sym (counted_none (λ v. v.left) c.args.nodes c.args.place);
  few = omega arith;
  small = omega arith;
}
