use Rattle.std.proofs.Common.{◌≡◌, ◌∙◌, List, [], ◌∷◌, ◌++◌, sym, ap, subst, arith, rules, append_assoc}
use Rattle.std.specs.List.{All}
use Rattle.std.proofs.lemmas.List.{append-nil}
use Rattle.std.specs.Vec.Iter.{into_iter_items}
use Rattle.ken_wire.specs.declared.take_end.TakeEnd.{TakeEnd}
use Rattle.ken_threads.proofs.Rows.{none_left}
use Rattle.ken_threads.proofs.Told.{HasTold, HaveTold, IsWhole, all_push, all_tail, none_told}
use Rattle.ken_threads.proofs.wiring.tell_all.Goals as goal

pub loop-take-init : goal.loop-take-init
loop-take-init c =
    let gives : c.args.takes.items ≡ into_iter_items c.into_iter-take-iterator.result = search rules in
    ([], subst (λ (l : List TakeEnd). HaveTold c.args.takes.items [] l) gives (none_told c.args.takes.items c.requires))

pub total-requires : goal.total-requires
total-requires c =
    let left = subst (λ (l : List TakeEnd). HaveTold c.args.takes.items c.loop-take.invariant.0 l) c.in-Some.ensures.steps.0 c.loop-take.invariant.1 in
    left.whole 0 c.in-Some.take (omega arith)

pub loop-take-preserved : goal.loop-take-preserved
loop-take-preserved c =
    let done = c.loop-take.invariant.0 in
    let left = subst (λ (l : List TakeEnd). HaveTold c.args.takes.items done l) c.in-Some.ensures.steps.0 c.loop-take.invariant.1 in
    let t : TakeEnd = c.in-Some.take in (
      done ++ t ∷ [],
      record {
        split = append_assoc done (t ∷ []) (into_iter_items c.next.new.self) ∙ left.split;
        told = all_push HasTold done t left.told c.total.ensures.heard;
        whole = all_tail IsWhole t (into_iter_items c.next.new.self) left.whole;
      },
    )

pub returns : goal.returns
returns c =
    let is = c.loop-take.invariant in
    let none : into_iter_items c.loop-take.take-iterator ≡ [] = none_left (into_iter_items c.loop-take.take-iterator) (search rules) in
    let whole : is.0 ≡ c.args.takes.items = sym (append-nil is.0) ∙ ap (λ (l : List TakeEnd). is.0 ++ l) (sym none) ∙ is.1.split in
    subst (All HasTold) whole is.1.told
