use Rattle.std.proofs.Common.{◌≡◌, ◌+◌, ◌∷◌, [], ◌++◌, ◌<◌, length, List, sym, ap, ◌∙◌, arith, rules}
use Rattle.std.specs.Prelude.{slice_index_or}
use Rattle.std.proofs.lemmas.List.{get_or-set_other, get_or_append_left, length-set, length-append}
use Rattle.ken_wire.specs.declared.send_end.SendEnd.{SendEnd}
use Rattle.ken_wire.specs.Rounds.{IsBackAt}
use Rattle.ken_wire.proofs.ByNode.{back_more, back_count}
use Rattle.ken_wire.proofs.rounds.take_back.Goals as goal

pub loop-end-preserved : goal.loop-end-preserved
loop-end-preserved c =
    let l = c.loop-end in
    let n = c.len.result in
    let a = c.index-takes-len.result in
    let b = c.join.new.self in
    let end = c.in-Some.end in
    let rest = c.pop.new.self.items in
    let split : l.ends.items ≡ rest ++ end ∷ [] = c.in-Some.ensures.items in
    let long : length l.ends.items ≡ length rest + 1 = ap (λ (x : List SendEnd). length x) split ∙ length-append rest (end ∷ []) in
    let n_is : n ≡ length rest = search rules in
    let low : n < length l.takes = omega (arith, n_is, long, l.invariant.count) in
    let kept = c.join.ensures.end in
    let back : IsBackAt a b end = search rules in
    record {
      count = omega (arith, long, l.invariant.count, length-set l.takes n b);
      ends = λ k e there. sym (get_or_append_left rest (end ∷ []) e k there) ∙ ap (λ (x : List SendEnd). slice_index_or x k e) (sym split) ∙ l.invariant.ends k e (omega (arith, there, long));
      others = λ k d there. get_or-set_other l.takes n k b d (λ e. omega (arith, there, e, n_is)) ∙ l.invariant.others k d (omega (arith, there, long));
      back = back_more c.args.takes.now l.takes c.args.ends.items l.ends.items rest a b end n split n_is low c.index-takes-len.is back l.invariant.ends l.invariant.others l.invariant.back;
    }

pub returns-clause-back : goal.returns-clause-back
returns-clause-back c = λ k d e low.
    let none : length c.loop-end.ends.items ≡ 0 = search rules in
    c.loop-end.invariant.back k d e (omega (arith, none)) low

pub returns-clause-next : goal.returns-clause-next
returns-clause-next c = λ count before. back_count c.args.takes.now c.loop-end.takes c.args.ends.items count c.requires.count c.loop-end.auto.takes (returns-clause-back c) before
