use Rattle.std.proofs.Common.{◌≡◌, ℕ, ◌+◌, ◌<◌, ◌^◌, List, [], ◌∷◌, ◌++◌, suc, length, sym, ap, subst, ◌∙◌, arith, append_assoc, length-set}
use Rattle.std.specs.Prelude.{slice_index}
use Rattle.std.specs.List.{AllByRecursion}
use Rattle.std.specs.Vec.Iter.{into_iter_items}
use Rattle.ken_core.proofs.Mailing.{count_at_most}
use Rattle.ken_model.specs.declared.messages.Send.{Send}
use Rattle.ken_record.specs.declared.sent.Sent.{Sent}
use Rattle.ken_work.proofs.Numbering.{sents, sents_one, with_one}
use Rattle.ken_work.proofs.effects.sends_of.Goals as goal

pub loop-send-preserved : goal.loop-send-preserved
loop-send-preserved c =
    let s : Send = c.in-Some.send in
    let counts : List ℕ = c.loop-send.sent in
    let numbered : List Sent = c.loop-send.numbered in
    let rest : List Send = into_iter_items c.next.new.self in
    let all : into_iter_items c.loop-send.send-iterator ≡ s ∷ rest = c.in-Some.ensures.steps.0 in
    let at : c.from-to.result ≡ s.to = c.from-to.ensures in
    let each : AllByRecursion (λ (x : Send). x.to < 8) (s ∷ rest) = subst (AllByRecursion (λ (x : Send). x.to < 8)) all c.loop-send.invariant.known in
    let known : s.to < length counts = omega (arith, each.0, c.loop-send.invariant.width) in
    let room : (w : ℕ) → slice_index counts w + suc (length rest) < 2 ^ 64 = λ w. subst (λ (l : List Send). slice_index counts w + length l < 2 ^ 64) all (c.loop-send.invariant.room w) in
    record {
      made = λ v stamp.
          let whole : List Sent = sents v stamp c.args.sent c.args.sends.items in
          let before : numbered ++ sents v stamp counts (s ∷ rest) ≡ whole = subst (λ (l : List Send). numbered ++ sents v stamp counts l ≡ whole) all (c.loop-send.invariant.made v stamp) in
          let one : (numbered ++ record { to = s.to; number = slice_index counts s.to + 1; bytes = s.bytes } ∷ []) ++ sents v stamp (with_one counts s.to) rest ≡ whole =
          append_assoc numbered (record { to = s.to; number = slice_index counts s.to + 1; bytes = s.bytes } ∷ []) (sents v stamp (with_one counts s.to) rest)
          ∙ ap (λ (l : List Sent). numbered ++ l) (sents_one v stamp counts s rest known) ∙ before in
          ap (λ (l : List Sent). l ++ sents v stamp (with_one counts c.from-to.result) rest) c.in_ok-push.ensures
          ∙ subst (λ (k : ℕ). (numbered ++ record { to = s.to; number = slice_index counts k + 1; bytes = s.bytes } ∷ []) ++ sents v stamp (with_one counts k) rest ≡ whole) (sym at) one;
      width = length-set counts c.from-to.result (slice_index counts c.from-to.result + 1) ∙ c.loop-send.invariant.width;
      known = each.1;
      room = subst (λ (k : ℕ). (w : ℕ) → slice_index (with_one counts k) w + length rest < 2 ^ 64) (sym at) (count_at_most counts s.to (length rest) (2 ^ 64) known room);
    }
