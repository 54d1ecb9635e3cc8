use Rattle.std.proofs.Common.{ℕ, ◌+◌, max, List, length, map, slice_index, refl, sym, ap, ◌∙◌, arith}
use Rattle.ken_model.specs.declared.messages.Message.{Message}
use Rattle.ken_model.specs.declared.messages.Out.{Out}
use Rattle.ken_model.specs.Network.{outputs_from}
use Rattle.ken_model.proofs.Posting.{posted_after-cong}
use Rattle.ken_cover.specs.Sides.{changes_at}
use Rattle.ken_core.specs.Ledgers.{sent_to}
use Rattle.ken_core.specs.Turns.{sent_of}
use Rattle.ken_core.proofs.Ledgers.{sent_short, count_long}
use Rattle.ken_core.proofs.sealing.Sealing.of.Goals as goal

pub mails-requires-clause-room : goal.mails-requires-clause-room
mails-requires-clause-room c = λ w.
    let is = ap (λ (xs : List ℕ). slice_index xs w) c.in_ok-counts.ensures in
    let long = ap (λ ls. slice_index (map (λ list. length list.items) ls) w) c.as_slice.ensures.value ∙ count_long c.args.machine.now.ledger.sent.items w in
    let short = sent_short c.args.machine.now.ledger w in
    omega arith

pub returns : goal.returns
returns c =
    let stamp : ℕ = c.max-stamp.result + 1 in
    let mails : List Message = c.in_ok-mails.mails.items in
    let outs : List Out = c.in_ok-outs.outs.items in
    let turn : ℕ = length c.args.machine.now.ledger.turns.items + 1 in
    record {
      stamp = c.max-stamp.result + 1;
      is_stamp = ap (λ k. k + 1) (c.max-stamp.ensures ∙ ap (λ k. max k c.args.message.now.stamp) c.stamp.ensures);
      mails = c.in_ok-mails.ensures ∙ posted_after-cong c.args.node stamp _ (λ w. length (sent_to c.args.machine.now.ledger w)) c.args.sends.now (λ w. ap (λ (xs : List ℕ). slice_index xs w) c.in_ok-counts.ensures ∙ ap (λ ls. slice_index (map (λ list. length list.items) ls) w) c.as_slice.ensures.value ∙ count_long c.args.machine.now.ledger.sent.items w);
      outputs = c.in_ok-outs.ensures ∙ ap (λ k. outputs_from k c.args.outs.now) (omega (arith, c.len-2.ensures, c.args.machine.now.ledger.outs.ok.0));
      effects = ap (λ ds. record { from = c.args.message.now.from; number = c.args.message.now.number; stamp = stamp; draws = ds; sends = c.in_ok-sents.field-0; outs = c.in_ok-outputs.field-0 }) c.in_ok-draws.ensures
          ∙ ap (λ ss. record { from = c.args.message.now.from; number = c.args.message.now.number; stamp = stamp; draws = c.args.draws.now; sends = ss; outs = c.in_ok-outputs.field-0 }) (c.in_ok-sents.ensures ∙ ap (map sent_of) c.as_slice-2.ensures.value)
          ∙ ap (λ os. record { from = c.args.message.now.from; number = c.args.message.now.number; stamp = stamp; draws = c.args.draws.now; sends = map sent_of mails; outs = os }) (c.in_ok-outputs.ensures ∙ c.as_slice-3.ensures.value);
      value = refl;
      live = c.in_ok-layer.ensures ∙ ap (λ k. record { turn = k + 1; changes = changes_at (k + 1) c.args.pages.now }) (omega (arith, c.len.ensures, c.args.machine.now.ledger.turns.ok.0));
      ahead = c.in_ok-layer-2.ensures ∙ sym c.in_ok-layer.ensures;
    }
