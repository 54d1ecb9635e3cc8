use Rattle.std.proofs.Common.{sym, ◌∙◌}
use Rattle.ken_model.proofs.Others.{to_others-other, to_others-same, all-push}
use Rattle.ken_model.proofs.handler.to_others.Goals as goal
use Rattle.ken_model.proofs.handler.to_others.Goals.{then-to-node+in_ok-from_slice+in_ok-push, else-to-node}

pub loop-to-preserved : goal.loop-to-preserved
loop-to-preserved c =
    let node = c.args.node in
    let to = c.loop-to.to in
    let text = c.args.text.now in
    elim c.if-to-node.branch [
      | then-to-node+in_ok-from_slice+in_ok-push w ↦ record {
        sends = rw (w.sends-is, w.in_ok-push.ensures.items, w.new-bytes.ensures, w.in_ok-from_slice.ensures.items, c.loop-to.invariant.sends) (sym (to_others-other node to text w.if-to-node.true));
        known = rw (w.sends-is, w.in_ok-push.ensures.items) (all-push _ c.loop-to.sends.items _ c.loop-to.invariant.known c.loop-to-test.true);
      }
      | else-to-node w ↦ record {
        sends = rw w.sends-is (c.loop-to.invariant.sends ∙ sym (to_others-same node to text w.if-to-node.false));
        known = rw w.sends-is c.loop-to.invariant.known;
      }
    ]
