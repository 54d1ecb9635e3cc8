use Rattle.std.proofs.Common.{◌≡◌, ◌++◌, ◌==◌, take, map, filter}
use Rattle.ken_record.specs.declared.sent.Sent.{Sent}
use Rattle.ken_store.specs.Kept.{message_sent}
use Rattle.ken_store.proofs.waiting.put_sent.Given as goal

abbrev pub invariant-loop-sent : goal.invariant-loop-sent
invariant-loop-sent l = l.messages.items ≡ l.initial.messages.items ++ map (message_sent l.node l.item.stamp) (filter (λ (s : Sent). s.to == l.to) (take l.sent-index l.item.sends))
