use Rattle.std.proofs.Common.{◌≡◌, ◌+◌, ◌<◌, ◌≤◌, List, length, slice_index_or, Vec, Global, vec_len, vec_capacity, suc, sym, ap, subst, ◌∙◌, arith}
use Rattle.std.specs.List.{All}
use Rattle.std.specs.Vec.Iter.{into_iter_items}
use Rattle.std.proofs.lemmas.List.{length-set}
use Rattle.std.proofs.lemmas.List.Elements.{All-head, All-tail, All-weaker, All-set}
use Rattle.ken_model.specs.declared.messages.Message.{Message}
use Rattle.ken_core.proofs.Mailing.{post_more}
use Rattle.ken_core.proofs.posting.post.Goals as goal

pub loop-mail-preserved : goal.loop-mail-preserved
loop-mail-preserved c =
    let steps = c.in-Some.ensures.steps in
    let mail : Message = c.in-Some.mail in
    let vs : List (Vec Message Global) = c.loop-mail.sent in
    let old : Vec Message Global = slice_index_or vs c.from.result c.index-sent-from.result in
    let new : Vec Message Global = c.push_reserved.new.self in
    let rest : List Message = into_iter_items c.next.new.self in
    let all_known = rw steps.0 at c.loop-mail.invariant.known in
    let known : mail.to < length vs = All-head (λ (x : Message). x.to < length vs) mail rest all_known in
    let still_known = All-tail (λ (x : Message). x.to < length vs) mail rest all_known in
    let is : old ≡ slice_index_or vs c.from.result old = ap (λ (v : Vec Message Global). slice_index_or vs c.from.result v) c.index-sent-from.is in
    let at : old ≡ slice_index_or vs mail.to old = subst (λ k. old ≡ slice_index_or vs k old) c.from.ensures is in
    let fewer : length (into_iter_items c.loop-mail.mail-iterator) ≡ suc (length rest) = ap length steps.0 in
    let room_here : vec_len old + length (into_iter_items c.loop-mail.mail-iterator) ≤ vec_capacity old =
    subst (λ (v : Vec Message Global). vec_len v + length (into_iter_items c.loop-mail.mail-iterator) ≤ vec_capacity v) (sym at) (c.loop-mail.invariant.room mail.to old known) in
    record {
      sent = λ w. post_more vs c.from.result mail old new rest known c.from.ensures is c.push_reserved.ensures.items w ∙ (rw steps.0 at c.loop-mail.invariant.sent) w;
      known = subst (λ k. All (λ (x : Message). x.to < k) rest) (sym (length-set vs c.from.result new)) still_known;
      room = All-set (λ (v : Vec Message Global). vec_len v + length rest ≤ vec_capacity v) vs c.from.result new (omega (arith, c.push_reserved.ensures.len, c.push_reserved.ensures.capacity)) (All-weaker (λ (v : Vec Message Global). vec_len v + length (into_iter_items c.loop-mail.mail-iterator) ≤ vec_capacity v) (λ (v : Vec Message Global). vec_len v + length rest ≤ vec_capacity v) (λ v h. omega arith) vs c.loop-mail.invariant.room);
    }
