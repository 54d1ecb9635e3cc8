use Rattle.std.proofs.Common.{◌≡◌, ◌++◌, map, filter, take}
use Rattle.ken_store.specs.Turnovers.{due_of, is_due}
use Rattle.ken_store.proofs.base_of.put_sent.Given as goal

abbrev pub invariant-loop-sent : goal.invariant-loop-sent
invariant-loop-sent l = l.messages.items ≡ l.initial.messages.items ++ filter (is_due l.acked l.to) (map (due_of l.item.stamp) (take l.sent-index l.item.sends))
