use Rattle.std.proofs.Common.{◌≡◌, ◌≤◌, ◌+◌, length, replicate, List, ℕ, Some, IsSomeAnd, sym, subst, ap, ◌∙◌, arith}
use Rattle.std.proofs.lemmas.List.{length-replicate}
use Rattle.ken_model.specs.declared.values.Value.{Value}
use Rattle.ken_model.specs.Heap.{block_at}
use Rattle.ken_alloc.specs.Objects.{with_zeros, rewritten}
use Rattle.ken_apps.proofs.Walks.{put_in}
use Rattle.ken_leases.proofs.blocks.keep.Goals as goal

pub write-requires-clause-within : goal.write-requires-clause-within
write-requires-clause-within c =
    let value = c.args.objects.now.value in
    let pair = c.args.pair.now in
    let place = c.in-Some.place in
    let zeros : List ℕ = replicate (length pair) 0 in
    let gap = sym c.in_ok-place.ensures.place ∙ c.in-Some.is in
    let same : c.alloc.new.self.value ≡ with_zeros (Some place) (length pair) value = c.in_ok-place.ensures.value ∙ ap (λ o. with_zeros o (length pair) value) c.in-Some.is in
    let count : length zeros ≡ length pair = length-replicate (length pair) 0 in
    let put = put_in (length pair) 16 value.size place zeros pair value.blocks c.requires.heap.blocks gap (sym count) in
    let at : block_at place c.alloc.new.self.value.blocks ≡ Some zeros = ap (λ (v : Value). block_at place v.blocks) same ∙ put.0 in
    let fits : 0 + length pair ≤ length zeros = omega (arith, count) in
    subst (λ o. IsSomeAnd o (λ old. 0 + length pair ≤ length old)) (sym at) fits

pub returns-clause-value : goal.returns-clause-value
returns-clause-value c =
    let value = c.args.objects.now.value in
    let pair = c.args.pair.now in
    let place = c.in-Some.place in
    let zeros : List ℕ = replicate (length pair) 0 in
    let gap = sym c.in_ok-place.ensures.place ∙ c.in-Some.is in
    let same : c.alloc.new.self.value ≡ with_zeros (Some place) (length pair) value = c.in_ok-place.ensures.value ∙ ap (λ o. with_zeros o (length pair) value) c.in-Some.is in
    let count : length zeros ≡ length pair = length-replicate (length pair) 0 in
    let put = put_in (length pair) 16 value.size place zeros pair value.blocks c.requires.heap.blocks gap (sym count) in
    c.in_ok-write.ensures.value ∙ ap (λ (v : Value). record v { blocks = rewritten place 0 pair v.blocks }) same ∙ ap (λ bs. record value { blocks = bs }) put.1
