use Rattle.std.proofs.Common.{◌≡◌, ◌-◌}
use Rattle.ken_record.specs.Reading.{items_at}
use Rattle.ken_record.proofs.Loops.{with_front}
use Rattle.ken_record.proofs.field.some.Given as goal

abbrev pub invariant-loop : goal.invariant-loop
invariant-loop g l = with_front l.items.items (items_at g.T.Field.reads (l.count - l.counter) l.rest) ≡ items_at g.T.Field.reads l.count l.bytes
