use Rattle.std.proofs.Common.{sym, subst}
use Rattle.ken_top.specs.Pieces.{IsScriptRefused}
use Rattle.ken_top.proofs.Coming.{faulty_come, long_come}
use Rattle.ken_top.proofs.checking.refused.Goals as goal

pub returns-in-Ok-clause-refused : goal.returns-in-Ok-clause-refused
returns-in-Ok-clause-refused g c = IsScriptRefused.long (long_come c.args.room _ _ c.in-Ok.count c.in-Ok.ensures.ended c.in-Ok.ensures.come (c.is_long.ensures.0 c.if-is_long.true))

pub returns-in-Ok-2-clause-refused : goal.returns-in-Ok-2-clause-refused
returns-in-Ok-2-clause-refused g c = subst (IsScriptRefused c.args.fault c.args.room _ _) (sym c.from.ensures) (faulty_come c.args.room _ _ c.in-Ok.count c.in-Ok.ensures.ended c.args.fault c.in-Ok.ensures.come c.in-Ok.ensures.few (λ long. (let yes = c.is_long.ensures.1 long in let no = c.if-is_long.false in absurd cc)))

pub returns-in-Err-clause-refused : goal.returns-in-Err-clause-refused
returns-in-Err-clause-refused g c = IsScriptRefused.unread
