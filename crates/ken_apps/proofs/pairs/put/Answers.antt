use Rattle.std.proofs.Common.{IsSome, sym, subst, refl}
use Rattle.ken_model.specs.declared.values.Value.{Value}
use Rattle.ken_model.specs.Heap.{block_at}
use Rattle.ken_apps.proofs.Walks.{still_with}
use Rattle.ken_apps.proofs.pairs.put.Goals as goal

pub free-requires-clause-block : goal.free-requires-clause-block
free-requires-clause-block c =
    let value = c.args.objects.now.value in
    let old = c.in-Some.old in
    let there : IsSome (block_at old value.blocks) = rw c.in-Some.ensures.pair.stands refl in
    subst (λ (v : Value). IsSome (block_at old v.blocks)) (sym c.in_ok-keep.ensures.value) (still_with old c.in_ok-keep.field-0 c.args.pair.now value there)
