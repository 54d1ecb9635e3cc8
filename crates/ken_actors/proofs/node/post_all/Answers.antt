use Rattle.std.proofs.Common.{◌≡◌, ◌+◌, ◌<◌, ◌≤◌, ◌++◌, ◌∷◌, List, [], length, map, slice_index_or, slice_set, Vec, Global, vec_len, vec_capacity, suc, sym, ap, subst, ◌∙◌, arith}
use Rattle.std.specs.List.{All}
use Rattle.std.specs.Vec.Iter.{into_iter_items}
use Rattle.std.proofs.lemmas.List.{length-set, length-map}
use Rattle.std.proofs.lemmas.List.Elements.{All-head, All-tail, All-weaker, All-set}
use Rattle.ken_model.specs.declared.messages.Message.{Message}
use Rattle.ken_model.specs.declared.messages.Send.{Send}
use Rattle.ken_actors.specs.declared.node.Letter.{Letter}
use Rattle.ken_model.specs.Posted.{posted_after, count_at}
use Rattle.ken_actors.specs.Letters.{send_of, copy_of}
use Rattle.ken_model.proofs.Posting.{numbered_one, posted_one, posted_to, with_rest, items_of, lists_pushed, message_at}
use Rattle.ken_actors.proofs.node.post_all.Goals as goal

pub loop-letter-preserved : goal.loop-letter-preserved
loop-letter-preserved c =
    let steps = c.in-Some.ensures.steps in
    let letter : Letter = c.in-Some.letter in
    let send : Send = letter.send in
    let vs : List (Vec Message Global) = c.loop-letter.sent in
    let old : Vec Message Global = slice_index_or vs c.from.result c.index-sent-from.result in
    let new : Vec Message Global = c.push.new.self in
    let rest : List Letter = into_iter_items c.next.new.self in
    let all_known = rw steps.0 at c.loop-letter.invariant.known in
    let known : send.to < length vs = All-head (λ (x : Letter). x.send.to < length vs) letter rest all_known in
    let still_known = All-tail (λ (x : Letter). x.send.to < length vs) letter rest all_known in
    let at : c.from.result ≡ send.to = c.from.ensures in
    let is : old ≡ slice_index_or vs send.to old = subst (λ k. old ≡ slice_index_or vs k old) at (ap (λ (v : Vec Message Global). slice_index_or vs c.from.result v) c.index-sent-from.is) in
    let long : c.len.result ≡ length old.items = c.len.ensures ∙ old.ok.0 in
    let lists : map items_of (slice_set vs c.from.result new) ≡ posted_to c.args.node c.args.stamp (map items_of vs) send =
    ap (λ k. map items_of (slice_set vs k new)) at ∙ lists_pushed c.args.node c.args.stamp c.len.result vs old new send known is long c.in_ok-push.ensures.items in
    let in_lists : send.to < length (map items_of vs) = omega (arith, length-map vs items_of) in
    let fewer : length (into_iter_items c.loop-letter.letter-iterator) ≡ suc (length rest) = ap length steps.0 in
    let room_here : vec_len old + length (into_iter_items c.loop-letter.letter-iterator) ≤ vec_capacity old =
    subst (λ (v : Vec Message Global). vec_len v + length (into_iter_items c.loop-letter.letter-iterator) ≤ vec_capacity v) (sym is) (c.loop-letter.invariant.room send.to old known) in
    record {
      sent = λ w. ap (λ ls. with_rest c.args.node w c.args.stamp (map send_of rest) (slice_index_or ls w [])) lists ∙ numbered_one c.args.node c.args.stamp (map items_of vs) send (map send_of rest) in_lists w
          ∙ (rw steps.0 at c.loop-letter.invariant.sent) w;
      mail = ap (λ ls. c.push-in-loop-letter.new.self.items ++ posted_after c.args.node c.args.stamp (count_at ls) (map copy_of rest)) lists
          ∙ ap (λ l. l ++ posted_after c.args.node c.args.stamp (count_at (posted_to c.args.node c.args.stamp (map items_of vs) send)) (map copy_of rest)) (c.in_ok-push-2.ensures.items ∙ ap (λ m. c.loop-letter.mail.items ++ m ∷ []) (message_at c.args.node c.args.stamp c.len.result vs old (copy_of letter) known is long))
          ∙ posted_one c.args.node c.args.stamp (map items_of vs) send letter.copy (map copy_of rest) in_lists c.loop-letter.mail.items
          ∙ (rw steps.0 at c.loop-letter.invariant.mail);
      known = subst (λ k. All (λ (x : Letter). x.send.to < k) rest) (sym (length-set vs c.from.result new)) still_known;
      room = All-set (λ (v : Vec Message Global). vec_len v + length rest ≤ vec_capacity v) vs c.from.result new (omega (arith, c.in_ok-push.ensures.len, c.in_ok-push.ensures.capacity)) (All-weaker (λ (v : Vec Message Global). vec_len v + length (into_iter_items c.loop-letter.letter-iterator) ≤ vec_capacity v) (λ (v : Vec Message Global). vec_len v + length rest ≤ vec_capacity v) (λ v h. omega arith) vs c.loop-letter.invariant.room);
      mail_room = omega (arith, c.in_ok-push-2.ensures.len, c.in_ok-push-2.ensures.capacity, c.loop-letter.invariant.mail_room);
    }
