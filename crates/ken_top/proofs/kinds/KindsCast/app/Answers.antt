use Rattle.ken_top.proofs.kinds.KindsCast.app.Goals as goal

pub returns-clause-serves : goal.returns-clause-serves
returns-clause-serves c = c.kinds_serve.ensures c.args.script.now
