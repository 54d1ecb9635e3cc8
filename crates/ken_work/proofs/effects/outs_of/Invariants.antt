use Rattle.std.proofs.Common.{◌≡◌, ◌+◌, ◌<◌, ◌^◌, ◌++◌, length}
use Rattle.std.specs.Vec.Iter.{into_iter_items}
use Rattle.ken_model.specs.Network.{outputs_from}
use Rattle.ken_work.proofs.effects.outs_of.Given as goal

-- what is numbered, and what numbering the rest would add, are what numbering all would give
abbrev pub invariant-loop-text : goal.invariant-loop-text
invariant-loop-text l = record {
  made : l.outs ++ outputs_from l.last (into_iter_items l.text-iterator) ≡ outputs_from l.fn.last l.fn.texts.items;
  room : l.last + length (into_iter_items l.text-iterator) < 2 ^ 64;
}
