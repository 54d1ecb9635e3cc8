use Rattle.std.proofs.Common.{◌≡◌, ◌-◌, ◌<◌, ◌∙◌, List, ℕ, length, get_or, ap, arith}
use Rattle.std.specs.Prelude.{map}
use Rattle.ken_outbox.specs.Waiting.{sent_to}
use Rattle.ken_outbox.specs.Lines.{shown, bare_lines}
use Rattle.ken_outbox.proofs.Resumed.{one_more}
use Rattle.ken_outbox.proofs.lines.resumed.Goals as goal

pub loop-node-init : goal.loop-node-init
unfolding bare_lines
loop-node-init c = ap (map shown) c.new-lines.ensures.items

pub loop-node-preserved : goal.loop-node-preserved
loop-node-preserved c =
    let v : ℕ = c.loop-node.node in
    let sent : List ℕ = c.args.sent.now in
    let low : v < length sent = omega (arith, c.loop-node-test.true, c.requires) in
    let less = c.saturating_sub.ensures in
    let at = c.from.ensures in
    let count = c.count_for.ensures in
    let acked : c.saturating_sub.result ≡ get_or sent v 0 - length (sent_to v c.args.waiting.now) = first_of (cc, grind arith) in
    ap (map shown) c.in_ok-push.ensures.items ∙ one_more c.loop-node.lines.items (record { acked = c.saturating_sub.result; messages = c.new-line.result.messages }) sent c.args.waiting.now v low acked c.new-line.ensures.1 c.loop-node.invariant
