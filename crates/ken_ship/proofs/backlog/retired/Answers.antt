use Rattle.std.proofs.Common.{◌≡◌, ◌-◌, ◌∙◌, ℕ, List, length, take, get_or, sym, ap, arith}
use Rattle.std.proofs.lemmas.List.{take_all}
use Rattle.ken_model.specs.declared.messages.Message.{Message}
use Rattle.ken_model.specs.declared.states.State.{State}
use Rattle.ken_outbox.specs.Waiting.{sent_to, resumed}
use Rattle.ken_ship.specs.Handing.{acked_in}
use Rattle.ken_ship.proofs.Resumed.{retired_is, progress_is}
use Rattle.ken_ship.proofs.backlog.retired.Goals as goal

pub returns : goal.returns
returns c =
    let s : State = c.args.state.now in
    let acked : List ℕ = c.loop-message.acked in
    let long : length s.messages ≡ length c.as_slice-message-items.result.now = ap (λ (ms : List Message). length ms) (sym c.as_slice-message-items.ensures) in
    let all : take c.loop-message.message-index s.messages ≡ s.messages = take_all c.loop-message.message-index s.messages (omega (arith, long, c.loop-message-test.false)) in
    let each : (u : ℕ) → get_or acked u 0 ≡ get_or s.sent u 0 - length (sent_to u s.messages) =
    λ u. c.loop-message.invariant.less u ∙ ap (λ (ms : List Message). get_or s.sent u 0 - length (sent_to u ms)) all in
    let numbers : acked ≡ acked_in (resumed 8 s).lines = retired_is acked s c.requires.sent c.loop-message.invariant.long each in
    let emitted : c.saturating_sub-2.result ≡ s.outputs - length s.outs = omega (arith, c.saturating_sub-2.ensures, c.len.ensures) in
    progress_is acked c.saturating_sub-2.result (resumed 8 s) numbers emitted
