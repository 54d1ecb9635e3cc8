use Rattle.std.proofs.Common.{◌≡◌, ◌∙◌, length, sym, arith}
use Rattle.std.proofs.lemmas.Grind.{same_number_lists}
use Rattle.ken_store.proofs.Turned.{side_stands}
use Rattle.ken_work.proofs.making.sent.Goals as goal

pub returns : goal.returns
returns g c =
    let long : length c.args.side.now.numbers.sent ≡ 8 = (side_stands g.D.Disk.told g.D.Disk.size c.args.side.now c.requires).0.sends.long in
    same_number_lists c.loop-node.sent c.args.side.now.numbers.sent (c.loop-node.invariant.width ∙ sym long) (λ k below. c.loop-node.invariant.same k (omega (arith, below, c.loop-node.invariant.width, c.loop-node-test.false)))
