use Rattle.std.proofs.Common.{sym, ◌∙◌}
use Rattle.ken_apps.proofs.Walks.{no_front, no_spaced, front_found}
use Rattle.ken_apps.proofs.pairs.find.Goals as goal

pub returns-in_err-place-clause-pair : goal.returns-in_err-place-clause-pair
returns-in_err-place-clause-pair c = rw c.from_residual.ensures (no_front c.args.key.now c.args.objects.now.value.blocks c.in_err-place.ensures.place)

pub returns-then-contains-clause-pair : goal.returns-then-contains-clause-pair
returns-then-contains-clause-pair c = no_spaced c.args.key.now c.args.objects.now.value.blocks (sym c.contains.ensures.value ∙ c.if-contains.true)

pub returns-clause-pair : goal.returns-clause-pair
returns-clause-pair c =
    let value = c.args.objects.now.value in
    front_found c.args.key.now c.in_ok-place.place 16 value.size value.blocks c.in_ok-place.ensures.heap.blocks (sym c.contains.ensures.value ∙ c.if-contains.false) c.in_ok-place.ensures.place
