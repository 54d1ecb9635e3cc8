use Rattle.std.proofs.Common.{◌≡◌, ◌++◌, map, length}
use Rattle.std.specs.Vec.Iter.{into_iter_items, into_iter_len}
use Rattle.ken_core.specs.Timeline.{merged}
use Rattle.ken_core.specs.Turns.{effects_line}
use Rattle.ken_core.proofs.merging.merged.Given as goal

-- what is merged, and what merging the rest would add, are what merging all would give
abbrev pub invariant-loop-line : goal.invariant-loop-line
invariant-loop-line l = record {
  made : l.all.items ++ merged (into_iter_items l.line-iterator) (map (effects_line l.node) l.left) ≡ merged l.fn.lines.items (map (effects_line l.node) l.turns);
  count : into_iter_len l.line-iterator ≡ length (into_iter_items l.line-iterator);
}
