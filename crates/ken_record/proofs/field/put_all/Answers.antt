use Rattle.std.proofs.lemmas.Result.{err_from_is_err_and}
use Rattle.ken_record.proofs.Appended.{front_item}
use Rattle.ken_record.proofs.field.put_all.Goals as goal

pub returns-in_err-put-clause-err : goal.returns-in_err-put-clause-err
returns-in_err-put-clause-err g c =
    let p = err_from_is_err_and c.from_residual.result c.from_residual.ensures.1 in
    rw p.1 (front_item g.T.Field.spell c.args.items.now c.loop-item.item-index c.item-item.result c.args.out.now.items c.loop-item.out.items c.put.new.out.items c.loop-item-test.true c.item-item.is c.loop-item.invariant c.in_err-put.ensures.err)
