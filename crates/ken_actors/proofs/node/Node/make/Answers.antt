use Rattle.std.proofs.Common.{◌≡◌, ℕ, List, ◌+◌, ◌<◌, length, map, subst, sym, slice_index_or, [], ◌++◌, ap, refl, ◌∙◌, arith}
use Rattle.std.specs.List.{All}
use Rattle.std.proofs.lemmas.List.{length-map, take_at}
use Rattle.ken_model.proofs.Posting.{items_of}
use Rattle.ken_model.proofs.Elements.{All-unmap}
use Rattle.ken_model.specs.declared.messages.Send.{Send}
use Rattle.ken_model.specs.Network.{numbered, outputs_from}
use Rattle.ken_model.specs.Posted.{posted_after, count_at}
use Rattle.ken_actors.specs.declared.node.Node.{Node}
use Rattle.ken_actors.specs.declared.node.Letter.{Letter}
use Rattle.ken_actors.specs.Letters.{send_of, copy_of}
use Rattle.ken_actors.proofs.node.Node.make.Goals as goal

pub post_all-requires-clause-known : goal.post_all-requires-clause-known
post_all-requires-clause-known c =
    let P : Send → Type 0 = λ s. s.to < length c.args.self.now.sent.items in
    let width : length c.deref_mut-2.result.now ≡ length c.args.self.now.sent.items = omega (arith, c.args.self.now.sent.ok.0, c.deref_mut-2.ensures.len) in
    subst (λ k. All (λ (l : Letter). l.send.to < k) c.in_ok-letters.letters.items) (sym width) (All-unmap P send_of c.in_ok-letters.letters.items (subst (λ ss. All P ss) (sym (c.in_ok-letters.ensures.sends ∙ c.into_vec-sends.ensures)) c.requires.known))

pub returns-clause-made : goal.returns-clause-made
returns-clause-made c =
    let self : Node = c.args.self.now in
    let new : Node = c.take.new.self in
    let v : ℕ = c.args.node in
    let stamp : ℕ = c.args.stamp in
    let letters : List Letter = c.in_ok-letters.letters.items in
    let ready : c.deref_mut-2.result.now ≡ c.reserve.new.sent = c.deref_mut-2.ensures.value ∙ take_at c.reserve.new.sent _ self.sent.len (omega (arith, c.reserve.auto.sent, c.deref_mut.ensures.len)) in
    let same : map items_of c.deref_mut-2.result.now ≡ map items_of self.sent.items = ap (map items_of) ready ∙ c.in_ok-reserve.ensures.same ∙ ap (map items_of) c.deref_mut.ensures.value in
    let sent : new.sent.items ≡ c.post_all.new.sent = ap (λ (x : Node). x.sent.items) c.take.ensures.rest ∙ take_at c.post_all.new.sent _ self.sent.len (omega (arith, c.post_all.auto.sent, c.deref_mut-2.ensures.len)) in
    let sends : map send_of letters ≡ c.args.played.sends = c.in_ok-letters.ensures.sends ∙ c.into_vec-sends.ensures in
    let copies : map copy_of letters ≡ c.args.played.sends = c.in_ok-letters.ensures.copies ∙ c.into_vec-sends.ensures in
    record {
      stamped = refl;
      turns = ap (λ (x : Node). x.turns + 1) c.take.ensures.rest;
      told = ap (λ (x : Node). x.outs.items) c.take.ensures.rest ∙ c.in_ok-append.ensures.items ∙ ap (λ l. l ++ c.into_vec-outs.result.items) c.in_ok-reserve-2.ensures.items ∙ ap (λ l. self.outs.items ++ l) c.into_vec-outs.ensures;
      sent = λ w. ap (λ ls. slice_index_or (map items_of ls) w []) sent ∙ c.in_ok-post_all.ensures.sent w
          ∙ ap (λ ls. slice_index_or ls w [] ++ numbered v w (count_at ls w) stamp (map send_of letters)) same
          ∙ ap (λ ss. slice_index_or (map items_of self.sent.items) w [] ++ numbered v w (count_at (map items_of self.sent.items) w) stamp ss) sends;
      taken = c.take.ensures.taken;
      inputs = ap (λ (x : Node). x.inputs.items) c.take.ensures.rest;
      widths = (length-map new.sent.items items_of ∙ ap length sent ∙ omega (arith, c.post_all.auto.sent, c.deref_mut-2.ensures.len, self.sent.ok.0) ∙ sym (length-map self.sent.items items_of), c.take.ensures.width);
      done_sends = c.in_ok-post_all.ensures.mail ∙ ap (λ l. l ++ posted_after v stamp (count_at (map items_of c.deref_mut-2.result.now)) (map copy_of letters)) c.in_ok-mail.ensures.items
          ∙ ap (λ ls. posted_after v stamp (count_at ls) (map copy_of letters)) same
          ∙ ap (posted_after v stamp (count_at (map items_of self.sent.items))) copies;
      done_outs = c.in_ok-copies.ensures ∙ ap (λ k. outputs_from k c.deref.result.now) (c.len.ensures ∙ self.outs.ok.0) ∙ ap (outputs_from (length self.outs.items)) (c.deref.ensures.value ∙ c.into_vec-outs.ensures);
    }
