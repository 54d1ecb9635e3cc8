use Rattle.std.proofs.Common.{◌≡◌, ℕ, ◌-◌, length, take, get_or}
use Rattle.ken_outbox.specs.Waiting.{sent_to}
use Rattle.ken_ship.proofs.backlog.retired.Given as goal

abbrev pub invariant-loop-message : goal.invariant-loop-message
invariant-loop-message l = record {
  long : length l.acked ≡ 8;
  less : (u : ℕ) → get_or l.acked u 0 ≡ get_or l.fn.state.sent u 0 - length (sent_to u (take l.message-index l.fn.state.messages));
}
