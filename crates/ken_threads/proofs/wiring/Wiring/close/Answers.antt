use Rattle.std.proofs.Common.{◌≡◌, List, sym, subst, arith}
use Rattle.std.specs.List.{All}
use Rattle.std.specs.Vec.{with_items}
use Rattle.std.proofs.lemmas.List.{with_items_is}
use Rattle.ken_wire.specs.declared.take_end.TakeEnd.{TakeEnd}
use Rattle.ken_threads.specs.Wires.{AreBack, AreWired, ends_of}
use Rattle.ken_threads.proofs.Told.{HasTold, IsWhole, are_whole, they_carry}
use Rattle.ken_threads.proofs.wiring.Wiring.close.Goals as goal

pub tell_all-requires : goal.tell_all-requires
tell_all-requires c =
    let n = c.requires.0 in
    let wired = c.requires.1 in
    let sends = ends_of c.args.self.sends.items in
    let value : c.as_mut_slice.result.now ≡ c.args.self.takes.items = c.as_mut_slice.ensures.value in
    let back : AreBack n sends c.args.self.takes.items c.bring_back.new.takes =
    subst (λ (l : List TakeEnd). AreBack n sends l c.bring_back.new.takes) value (c.bring_back.ensures n (subst (λ (l : List TakeEnd). AreWired n l sends) (sym value) wired)) in
    let items : (with_items c.args.self.takes c.bring_back.new.takes).items ≡ c.bring_back.new.takes =
    with_items_is c.args.self.takes c.bring_back.new.takes (omega (arith, back.count, wired.takers_count, c.as_mut_slice.ensures.len)) in
    subst (All IsWhole) (sym items) (are_whole n sends c.args.self.takes.items c.bring_back.new.takes wired back)

pub returns : goal.returns
returns c = λ n wired.
    let sends = ends_of c.args.self.sends.items in
    let value : c.as_mut_slice.result.now ≡ c.args.self.takes.items = c.as_mut_slice.ensures.value in
    let back : AreBack n sends c.args.self.takes.items c.bring_back.new.takes =
    subst (λ (l : List TakeEnd). AreBack n sends l c.bring_back.new.takes) value (c.bring_back.ensures n (subst (λ (l : List TakeEnd). AreWired n l sends) (sym value) wired)) in
    let items : (with_items c.args.self.takes c.bring_back.new.takes).items ≡ c.bring_back.new.takes =
    with_items_is c.args.self.takes c.bring_back.new.takes (omega (arith, back.count, wired.takers_count, c.as_mut_slice.ensures.len)) in
    they_carry n sends c.args.self.takes.items c.bring_back.new.takes wired back (subst (All HasTold) items c.tell_all.ensures)
