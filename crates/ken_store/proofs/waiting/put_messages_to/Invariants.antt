use Rattle.std.proofs.Common.{◌≡◌, ◌++◌, take}
use Rattle.std.specs.List.{flat_map}
use Rattle.ken_store.specs.Kept.{due_to, sent_to}
use Rattle.ken_store.proofs.waiting.put_messages_to.Given as goal

abbrev pub invariant-loop-record : goal.invariant-loop-record
invariant-loop-record l = l.messages.items ≡ l.fn.messages.items ++ (due_to l.node l.to l.due ++ flat_map (sent_to l.node l.to) (take l.record-index l.records))
