use Rattle.std.proofs.Common.{◌≡◌, drop}
use Rattle.ken_record.specs.Grammar.{rise_from}
use Rattle.ken_record.proofs.rising.rise.Given as goal

abbrev pub invariant-loop-item : goal.invariant-loop-item
invariant-loop-item g l = rise_from g.T.Ranked.place l.low (drop l.item-index l.items) ≡ rise_from g.T.Ranked.place 0 l.items
