use Rattle.std.proofs.Common.{◌<◌, ◌^◌, Some, true, false, refl, sym, subst, arith}
use Rattle.ken_model.specs.Heap.{block_at, place_past}
use Rattle.ken_model.specs.KeyValue.{pair_of}
use Rattle.ken_apps.proofs.Walks.{Seeks, pair_from, first_seeks, found_here, walks, tested, past_more, at_most, to_end, falls}
use Rattle.ken_leases.proofs.blocks.place_of.Goals as goal

pub loop-next-init : goal.loop-next-init
loop-next-init c =
    let first = c.first-next.ensures in
    let value = c.args.objects.now.value in
    record {
      heap = first.heap;
      seeks = subst (Seeks c.args.name.now value.blocks (pair_of c.args.name.now value.blocks)) (sym first.place) (first_seeks c.args.name.now 16 value.size value.blocks first.heap.blocks);
    }

pub returns-then-is_of : goal.returns-then-is_of
returns-then-is_of c =
    let key = c.args.name.now in
    let value = c.args.objects.now.value in
    let place = c.in-Some.place in
    let inv = c.loop-next.invariant in
    let seeks = subst (Seeks key value.blocks (pair_of key value.blocks)) c.in-Some.is inv.seeks in
    let key_is = tested key (block_at place value.blocks) c.is_of.result true c.is_of.ensures c.if-is_of.true in
    record { pair = found_here key place 16 value.size value.blocks (block_at place value.blocks) inv.heap.blocks refl seeks.1 key_is seeks.0; heap = inv.heap }

pub loop-next-smaller : goal.loop-next-smaller
loop-next-smaller c =
    let key = c.args.name.now in
    let value = c.args.objects.now.value in
    let place = c.in-Some.place in
    let inv = c.loop-next.invariant in
    let seeks = subst (Seeks key value.blocks (pair_of key value.blocks)) c.in-Some.is inv.seeks in
    let within = at_most place 16 value.size value.blocks inv.heap.blocks seeks.1 in
    let small : place < 2 ^ 64 = omega (arith, within, inv.heap.pages.2, inv.heap.pages.3) in
    let less = falls place (place_past place value.blocks) small (past_more place value.blocks) in
    subst (λ o. to_end c.next-next.result < to_end o) (sym c.in-Some.is) (subst (λ o. to_end o < to_end (Some place)) (sym c.next-next.ensures) less)

pub loop-next-preserved : goal.loop-next-preserved
loop-next-preserved c =
    let key = c.args.name.now in
    let value = c.args.objects.now.value in
    let place = c.in-Some.place in
    let inv = c.loop-next.invariant in
    let seeks = subst (Seeks key value.blocks (pair_of key value.blocks)) c.in-Some.is inv.seeks in
    let other = tested key (block_at place value.blocks) c.is_of.result false c.is_of.ensures c.if-is_of.false in
    let past = walks key place 16 value.size value.blocks inv.heap.blocks seeks.1 other in
    record {
      heap = inv.heap;
      seeks = subst (λ o. Seeks key value.blocks o c.next-next.result) (sym seeks.0) (subst (Seeks key value.blocks (pair_from key place value.blocks)) (sym c.next-next.ensures) past);
    }
