use Rattle.std.proofs.Common.{◌≡◌, ◌∙◌, List, [], ◌∷◌, ◌++◌, sym, ap, subst, rules}
use Rattle.std.proofs.lemmas.List.{append-nil}
use Rattle.std.specs.Prelude.{Vec}
use Rattle.std.specs.Global.{Global}
use Rattle.std.specs.Vec.Iter.{into_iter_items}
use Rattle.ken_wire.specs.declared.send_end.SendEnd.{SendEnd}
use Rattle.ken_threads.specs.Wires.{AreBack, ends_of}
use Rattle.ken_threads.proofs.Back.{AreBackBut, may_come_back, more_back, none_back}
use Rattle.ken_threads.proofs.Rows.{none_left}
use Rattle.ken_threads.proofs.wiring.bring_back.Goals as goal

pub loop-ends-init : goal.loop-ends-init
loop-ends-init c = λ n wired.
    let gives : c.args.sends.items ≡ into_iter_items c.into_iter-ends-iterator.result = search rules in (
      [],
      subst (λ (l : List (Vec SendEnd Global)). AreBackBut n c.args.takes.now (ends_of c.args.sends.items) [] (ends_of l) c.args.takes.now) gives
          (none_back n c.args.takes.now (ends_of c.args.sends.items) wired),
    )

pub take_back-requires-clause-count : goal.take_back-requires-clause-count
take_back-requires-clause-count c =
    let n = c.requires.0 in
    let is = c.loop-ends.invariant n c.requires.1 in
    let all = ends_of c.args.sends.items in
    let left = subst (λ (l : List (Vec SendEnd Global)). AreBackBut n c.args.takes.now all is.0 (ends_of l) c.loop-ends.takes) c.in-Some.ensures.steps.0 is.1 in
    (may_come_back n c.args.takes.now all is.0 (ends_of (into_iter_items c.next.new.self)) c.in-Some.ends.items c.loop-ends.takes c.requires.1 left).0

pub take_back-requires-clause-next : goal.take_back-requires-clause-next
take_back-requires-clause-next c =
    let n = c.requires.0 in
    let is = c.loop-ends.invariant n c.requires.1 in
    let all = ends_of c.args.sends.items in
    let left = subst (λ (l : List (Vec SendEnd Global)). AreBackBut n c.args.takes.now all is.0 (ends_of l) c.loop-ends.takes) c.in-Some.ensures.steps.0 is.1 in
    (may_come_back n c.args.takes.now all is.0 (ends_of (into_iter_items c.next.new.self)) c.in-Some.ends.items c.loop-ends.takes c.requires.1 left).1

pub loop-ends-preserved : goal.loop-ends-preserved
loop-ends-preserved c = λ n wired.
    let is = c.loop-ends.invariant n wired in
    let all = ends_of c.args.sends.items in
    let left = subst (λ (l : List (Vec SendEnd Global)). AreBackBut n c.args.takes.now all is.0 (ends_of l) c.loop-ends.takes) c.in-Some.ensures.steps.0 is.1 in (
      is.0 ++ c.in-Some.ends.items ∷ [],
      more_back n c.args.takes.now all is.0 (ends_of (into_iter_items c.next.new.self)) c.in-Some.ends.items c.loop-ends.takes c.take_back.new.takes wired left c.take_back.ensures.count c.take_back.ensures.back,
    )

pub returns : goal.returns
returns c = λ n wired.
    let is = c.loop-ends.invariant n wired in
    let none : into_iter_items c.loop-ends.ends-iterator ≡ [] = none_left (into_iter_items c.loop-ends.ends-iterator) (search rules) in
    let empty : ends_of (into_iter_items c.loop-ends.ends-iterator) ≡ [] = ap (λ (l : List (Vec SendEnd Global)). ends_of l) none in
    let whole : is.0 ≡ ends_of c.args.sends.items = sym (append-nil is.0) ∙ ap (λ (l : List (List SendEnd)). is.0 ++ l) (sym empty) ∙ is.1.split in
    subst (λ (l : List (List SendEnd)). AreBack n l c.args.takes.now c.loop-ends.takes) whole is.1.back
