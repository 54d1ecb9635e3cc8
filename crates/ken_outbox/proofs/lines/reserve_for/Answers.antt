use Rattle.std.proofs.Common.{◌≡◌, ◌<◌, ◌∙◌, List, length, slice_index_or, ap, arith}
use Rattle.std.proofs.lemmas.List.{get_or_read, length-map}
use Rattle.ken_model.specs.declared.messages.Message.{Message}
use Rattle.ken_outbox.specs.Lines.{shown}
use Rattle.ken_outbox.specs.Waiting.{Unacked}
use Rattle.ken_outbox.proofs.Sends.{same_lines, more_room, is_for}
use Rattle.ken_outbox.proofs.lines.reserve_for.Goals as goal

pub returns-in_err-reserve-clause-same : goal.returns-in_err-reserve-clause-same
returns-in_err-reserve-clause-same c =
    same_lines c.loop-i.lines c.from-to.result c.index-lines-to.result c.reserve.new.self _ c.reserve.ensures.same.0 c.reserve.ensures.same.1 c.loop-i.invariant.same

pub loop-i-preserved : goal.loop-i-preserved
loop-i-preserved c =
    let sends : List Message = c.args.sends.now.items in
    let within : c.loop-i.i < length sends = omega (arith, c.loop-i-test.true, c.len-i-end.ensures, c.args.sends.now.ok.0) in
    let at : (m : Message) → c.from-to.result ≡ (slice_index_or sends c.loop-i.i m).to =
    λ m. c.from-to.ensures ∙ ap (λ (x : Message). x.to) (get_or_read sends c.loop-i.i c.index.result.now within c.index.ensures m) in
    let low : c.from-to.result < length c.loop-i.lines = omega (
      arith,
      at c.index.result.now,
      is_for (length c.args.lines.now) sends c.loop-i.i c.index.result.now c.requires within,
      ap (λ (ls : List Unacked). length ls) c.loop-i.invariant.same,
      length-map c.loop-i.lines shown,
      length-map c.args.lines.now shown,
    ) in
    record {
      same = same_lines c.loop-i.lines c.from-to.result c.index-lines-to.result c.reserve.new.self _ c.reserve.ensures.same.0 c.reserve.ensures.same.1 c.loop-i.invariant.same;
      room = more_room c.loop-i.lines sends c.loop-i.i c.from-to.result _ c.reserve.new.self low (λ m less. at m) within (omega (arith, c.in_ok-reserve.ensures.room, c.len.ensures)) c.loop-i.invariant.room;
    }
