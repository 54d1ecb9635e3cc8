use Rattle.std.proofs.Common.{◌≡◌}
use Rattle.std.specs.List.{flat_map, range_with_len}
use Rattle.ken_store.specs.Kept.{messages_to}
use Rattle.ken_store.proofs.waiting.messages_in.Given as goal

abbrev pub invariant-loop-to : goal.invariant-loop-to
invariant-loop-to g l = l.messages.items ≡ flat_map (messages_to l.node l.log.base l.records) (range_with_len 0 l.to)
