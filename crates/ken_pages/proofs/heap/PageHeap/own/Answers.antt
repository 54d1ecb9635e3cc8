use Rattle.std.proofs.Common.{◌≡◌, ◌+◌, ◌-◌, ◌*◌, ◌/◌, length, ap, arith}
use Rattle.ken_pages.specs.Layout.{own_pages}
use Rattle.ken_pages.proofs.Pages.{length_view}
use Rattle.ken_pages.proofs.Counted.{lacking-few}
use Rattle.ken_pages.proofs.heap.PageHeap.own.Goals as goal

pub overflow_add-end : goal.overflow_add-end
overflow_add-end c =
    let long : length c.args.self.now.bytes ≡ 256 * length c.self.inside.pages.items = length_view c.self.inside.begun c.self.inside.pages.items c.self.inside.shelf c.args.self.now c.self.invariant.whole c.self.view_is in
    record { fits = omega (arith, long, c.requires.within, c.self.invariant.most) }

pub lacking-lacking-requires-clause-within : goal.lacking-lacking-requires-clause-within
lacking-lacking-requires-clause-within c =
    let long : length c.args.self.now.bytes ≡ 256 * length c.self.inside.pages.items = length_view c.self.inside.begun c.self.inside.pages.items c.self.inside.shelf c.args.self.now c.self.invariant.whole c.self.view_is in
    rw c.deref.ensures.value (omega (arith, long, c.requires.within, c.requires.some))

pub reserve-requires : goal.reserve-requires
reserve-requires c =
    let long : length c.args.self.now.bytes ≡ 256 * length c.self.inside.pages.items = length_view c.self.inside.begun c.self.inside.pages.items c.self.inside.shelf c.args.self.now c.self.invariant.whole c.self.view_is in
    omega (arith, long, c.requires.within, c.requires.some, c.self.invariant.most, c.lacking-lacking.ensures, lacking-few (c.args.at / 256) ((c.args.at + c.args.len - 1) / 256 + 1 - c.args.at / 256) (own_pages c.deref.result.now))

pub take_all-requires-clause-within : goal.take_all-requires-clause-within
take_all-requires-clause-within c =
    let long : length c.reserve.new.self.bytes ≡ 256 * length c.self-2.inside.pages.items = length_view c.self-2.inside.begun c.self-2.inside.pages.items c.self-2.inside.shelf c.reserve.new.self c.self-2.invariant.whole c.self-2.view_is in
    rw c.deref_mut.ensures.value (omega (arith, long, ap length c.reserve.ensures.bytes, c.requires.within, c.requires.some))
