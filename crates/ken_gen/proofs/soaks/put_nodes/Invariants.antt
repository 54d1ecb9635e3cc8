use Rattle.std.proofs.Common.{◌≡◌, ◌++◌, drop}
use Rattle.ken_gen.specs.Summary.{node_lines}
use Rattle.ken_gen.proofs.soaks.put_nodes.Given as goal

-- the lines so far, with those that are still to be written, are all
abbrev pub invariant-loop-node : goal.invariant-loop-node
invariant-loop-node l = l.out.items ++ node_lines l.node (drop l.node l.totals) ≡ l.fn.out.items ++ node_lines 0 l.totals
