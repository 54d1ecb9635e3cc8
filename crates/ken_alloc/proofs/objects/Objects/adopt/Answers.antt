use Rattle.ken_model.proofs.OnePlace.{broken_none}
use Rattle.ken_alloc.proofs.Held.{on_err_any}
use Rattle.ken_alloc.proofs.objects.Objects.adopt.Goals as goal

pub returns-in_err-check-clause-none : goal.returns-in_err-check-clause-none
returns-in_err-check-clause-none c = on_err_any c.from_residual.result _ (broken_none c.args.pages.bytes _ c.in_err-check.ensures.place)
