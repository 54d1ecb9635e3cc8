use Rattle.std.proofs.Common.{◌≡◌, ◌++◌, take}
use Rattle.std.specs.List.{flat_map}
use Rattle.ken_record.specs.Spelling.{page}
use Rattle.ken_record.specs.Turns.{turn_pages}
use Rattle.ken_record.proofs.turn.put_each.Given as goal

abbrev pub invariant-loop-number : goal.invariant-loop-number
invariant-loop-number l = l.out.items ≡ l.initial.out.items ++ flat_map page (turn_pages (take l.number-index l.pages))
