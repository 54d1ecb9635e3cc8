use Rattle.std.proofs.Common.{◌+◌, ◌++◌, drop, ap, ◌∙◌}
use Rattle.ken_gen.specs.Summary.{node_lines}
use Rattle.ken_gen.proofs.Lines.{lines_on, lines_done}
use Rattle.ken_gen.proofs.soaks.put_nodes.Goals as goal

pub loop-node-preserved : goal.loop-node-preserved
loop-node-preserved c =
    ap (λ bytes. bytes ++ node_lines (c.loop-node.node + 1) (drop (c.loop-node.node + 1) c.args.totals.now)) c.in_ok-put_line.ensures
    ∙ lines_on c.args.totals.now c.loop-node.node _ c.loop-node.out.items _ c.loop-node-test.true c.loop-node.invariant

pub returns : goal.returns
returns c = lines_done c.args.totals.now c.loop-node.node c.loop-node.out.items _ c.loop-node-test.false c.loop-node.invariant
