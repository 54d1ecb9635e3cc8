use Rattle.std.proofs.Common.{◌≡◌, ℕ, ◌+◌, ◌-◌, ◌<◌, ◌++◌, List, drop, suc, length, slice_index, slice_set, get_or, refl, sym, ap, subst, ◌∙◌, arith}
use Rattle.std.proofs.lemmas.List.{length-set, get_or_default}
use Rattle.std.proofs.lemmas.List.Elements.{All-from_recursion}
use Rattle.ken_model.specs.declared.messages.Message.{Message}
use Rattle.ken_model.specs.declared.messages.Send.{Send}
use Rattle.ken_model.specs.Posted.{posted_after}
use Rattle.ken_core.proofs.Mailing.{posted_more, count_at_most}
use Rattle.ken_core.proofs.sealing.mails.Goals as goal

pub loop-send-preserved : goal.loop-send-preserved
loop-send-preserved c =
    let s : Send = c.send-item.result in
    let counts : List ℕ = c.loop-send.counts.items in
    let sends : List Send = c.args.sends.now in
    let i : ℕ = c.loop-send.send-index in
    let whole : List Message = posted_after c.args.node c.args.stamp (λ w. slice_index c.args.counts.items w) sends in
    let all = All-from_recursion (λ (x : Send). x.to < length c.args.counts.items) sends c.requires.known i s c.loop-send-test.true in
    let known : s.to < length counts = omega (arith, all, ap (λ (x : Send). x.to) c.send-item.is, c.loop-send.invariant.width) in
    let at : c.from-to.result ≡ s.to = c.from-to.ensures in
    let number : c.index.result.now ≡ slice_index counts s.to = subst (λ k. c.index.result.now ≡ get_or counts k 0) at (c.index.ensures ∙ get_or_default counts c.from-to.result c.index.result.now 0 (omega (arith, known, at))) in
    let left : length sends - i ≡ suc (length sends - (i + 1)) = omega (arith, c.loop-send-test.true) in
    record {
      made = subst (λ k. c.push.new.self.items ++ posted_after c.args.node c.args.stamp (λ w. slice_index (slice_set counts k (c.index.result.now + 1)) w) (drop (i + 1) sends) ≡ whole) (sym at)
          (subst (λ n. c.push.new.self.items ++ posted_after c.args.node c.args.stamp (λ w. slice_index (slice_set counts s.to (n + 1)) w) (drop (i + 1) sends) ≡ whole) (sym number)
          (ap (λ ms. ms ++ posted_after c.args.node c.args.stamp (λ w. slice_index (slice_set counts s.to (slice_index counts s.to + 1)) w) (drop (i + 1) sends)) c.in_ok-push.ensures.items
          ∙ posted_more c.args.node c.args.stamp counts c.loop-send.mails.items whole (record { from = c.args.node; to = s.to; number = c.index.result.now + 1; stamp = c.args.stamp; bytes = c.in_ok-try_clone.field-0 }) sends i s c.loop-send-test.true c.send-item.is known
          (ap (λ n. record { from = c.args.node; to = s.to; number = n + 1; stamp = c.args.stamp; bytes = c.in_ok-try_clone.field-0 }) number ∙ ap (λ b. record { from = c.args.node; to = s.to; number = slice_index counts s.to + 1; stamp = c.args.stamp; bytes = b }) c.in_ok-try_clone.ensures)
          c.loop-send.invariant.made));
      width = length-set counts c.from-to.result (c.index.result.now + 1) ∙ c.loop-send.invariant.width;
      room = λ w. subst (λ k. slice_index (slice_set counts k (c.index.result.now + 1)) w + (length sends - (i + 1)) < 18446744073709551616) (sym at)
          (subst (λ n. slice_index (slice_set counts s.to (n + 1)) w + (length sends - (i + 1)) < 18446744073709551616) (sym number)
          (count_at_most counts s.to (length sends - (i + 1)) 18446744073709551616 known (λ x. let h = c.loop-send.invariant.room x in omega (arith, left)) w));
    }

pub loop-send-init : goal.loop-send-init
loop-send-init c = record {
  made = ap (λ (ms : List Message). ms ++ posted_after c.args.node c.args.stamp (λ w. slice_index c.args.counts.items w) c.args.sends.now) c.in_ok-mails.ensures.items;
  width = refl;
  room = λ w. let h = c.requires.room w in omega (arith, c.in_ok-mails.ensures.capacity, c.in_ok-mails.mails.small);
}
