use Rattle.std.proofs.Common.{subst}
use Rattle.ken_top.specs.Checked.{IsJudgedOf}
use Rattle.ken_top.proofs.Judging.{checks_right}
use Rattle.ken_top.proofs.checking.checked.Goals as goal

pub returns-in-Ok-Right-clause-checks : goal.returns-in-Ok-Right-clause-checks
returns-in-Ok-Right-clause-checks g c = checks_right (g.C.Cast.program c.args.cast) c.args.length (g.S.Source.left c.args.source.now) (g.K.Sink.took c.args.sink.now) (g.K.Sink.took c.written.new.sink) c.written.result (subst (IsJudgedOf (g.C.Cast.program c.args.cast) c.args.length (g.S.Source.left c.args.source.now)) c.in-Ok-Right.field-0-is c.in-Ok-Right.ensures.judged) c.written.ensures.out
