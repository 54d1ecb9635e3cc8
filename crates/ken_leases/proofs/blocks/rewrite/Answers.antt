use Rattle.std.proofs.Common.{◌≡◌, List, ℕ, sym, ap, ◌∙◌}
use Rattle.std.proofs.lemmas.Result.{on_ok_weaker}
use Rattle.ken_alloc.specs.Objects.{rewritten}
use Rattle.ken_model.specs.declared.values.Block.{Block}
use Rattle.ken_leases.specs.Leases.{lease_bytes}
use Rattle.ken_leases.proofs.Rewrites.{length-lease_bytes, rewritten_is}
use Rattle.ken_leases.proofs.blocks.rewrite.Goals as goal

pub returns-clause-value : goal.returns-clause-value
returns-clause-value c =
    let value = c.args.objects.now.value in
    let name = c.args.name.now in
    let place = c.args.found.place in
    let was = c.requires.found in
    let bytes : c.as_slice.result.now ≡ lease_bytes name c.args.lease = c.as_slice.ensures.value ∙ c.lease_bytes.ensures in
    let long = length-lease_bytes name c.args.lease ∙ sym was.long in
    on_ok_weaker c.write.result
    (λ ok. ok ∙ ap (λ (ys : List ℕ). record value { blocks = rewritten place 0 ys value.blocks }) bytes ∙ ap (λ (bs : List Block). record value { blocks = bs }) (rewritten_is name (lease_bytes name c.args.lease) 16 value.size place was.bytes value.blocks c.requires.heap.blocks was.pair long))
    c.write.ensures.value
