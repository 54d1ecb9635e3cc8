use Rattle.std.proofs.Common.{◌≡◌, ◌+◌, drop, map}
use Rattle.ken_core.specs.Timeline.{count_before}
use Rattle.ken_core.specs.Turns.{effects_line}
use Rattle.ken_core.proofs.merging.count_before.Given as goal

-- all turns so far come before the line
abbrev pub invariant-loop-place : goal.invariant-loop-place
invariant-loop-place l = count_before l.line (map (effects_line l.node) l.turns) ≡ l.place + count_before l.line (map (effects_line l.node) (drop l.place l.turns))
