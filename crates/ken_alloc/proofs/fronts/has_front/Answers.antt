use Rattle.std.proofs.Common.{length, get_or, ne_eqb, ◌∙◌}
use Rattle.ken_alloc.proofs.Begins.{front_true, front_false}
use Rattle.ken_alloc.proofs.fronts.has_front.Goals as goal

pub returns-then-bytes-key : goal.returns-then-bytes-key
returns-then-bytes-key c = front_true c.args.key.now c.args.bytes.now c.args.behind c.eq.result c.requires c.if-bytes-key.true c.eq.ensures

pub returns-else-bytes-key : goal.returns-else-bytes-key
returns-else-bytes-key c =
    ne_eqb (get_or c.args.bytes.now (length c.args.key.now) 0) c.args.behind c.if-bytes-key.false ∙ front_false c.args.key.now c.args.bytes.now c.args.behind c.requires c.if-bytes-key.false
