use Rattle.std.proofs.Common.{◌<◌, List, length, sym, subst, arith}
use Rattle.ken_net.specs.Puts.{Put}
use Rattle.ken_net.specs.Went.{Went}
use Rattle.ken_net.proofs.Joins.{went_joins}
use Rattle.ken_net.proofs.Turns.{between_turned, turns_pass, turns_keep}
use Rattle.ken_net.proofs.passing.pass_due.Goals as goal

pub pass_oldest-requires-clause-own : goal.pass_oldest-requires-clause-own
pass_oldest-requires-clause-own g c = rw (c.loop-turn.invariant.passed.node_is, c.loop-turn.invariant.kept) (between_turned _ _ c.args.kept.now.items c.loop-turn._turn c.requires.own)

pub loop-turn-preserved : goal.loop-turn-preserved
loop-turn-preserved g c =
    let low : c.loop-turn._turn < length c.args.kept.now.items = omega arith in
    let joined = went_joins g.met.B.Base.put_joins g.met.B.Base.given_joins c.loop-turn.invariant.passed c.pass_oldest.ensures.passed in
    record {
      passed = subst (λ (ps : List Put). Went g.B.Base.node g.B.Base.nodes g.B.Base.nones g.B.Base.put_between g.B.Base.given_between c.args.base.now c.pass_oldest.new.base ps)
          (sym (turns_pass c.args.kept.now.items c.loop-turn._turn low c.args.to c.loop-turn.kept.items c.loop-turn.invariant.kept)) joined;
      kept = turns_keep c.args.kept.now.items c.loop-turn._turn low c.loop-turn.kept.items c.pass_oldest.new.kept.items c.loop-turn.invariant.kept c.pass_oldest.ensures.kept;
    }
