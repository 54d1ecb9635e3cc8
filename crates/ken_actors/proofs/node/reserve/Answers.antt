use Rattle.std.proofs.Common.{◌+◌, ◌<◌, ◌≤◌, length, Vec, Global, vec_len, vec_capacity, ◌∙◌, arith}
use Rattle.std.proofs.Math.Seq.{map-set_same}
use Rattle.std.proofs.lemmas.List.Elements.{AllWithin-more_set}
use Rattle.ken_model.specs.declared.messages.Message.{Message}
use Rattle.ken_actors.proofs.node.reserve.Goals as goal

pub returns-in_err-reserve-clause-same : goal.returns-in_err-reserve-clause-same
returns-in_err-reserve-clause-same c =
    map-set_same (λ (v : Vec Message Global). v.items) c.loop-list.sent c.loop-list.list-index c.reserve.new.self c.list-item.result c.in_err-reserve.ensures.items ∙ c.loop-list.invariant.same

pub loop-list-preserved : goal.loop-list-preserved
loop-list-preserved c =
    let within : c.loop-list.list-index < length c.loop-list.sent = omega (arith, c.loop-list-test.true, c.loop-list.auto.sent) in
    record {
      same = map-set_same (λ (v : Vec Message Global). v.items) c.loop-list.sent c.loop-list.list-index c.reserve.new.self c.list-item.result c.in_ok-reserve.ensures.items ∙ c.loop-list.invariant.same;
      room = AllWithin-more_set c.loop-list.sent c.loop-list.list-index c.reserve.new.self within (λ v. vec_len v + c.args.count ≤ vec_capacity v) c.loop-list.invariant.room c.in_ok-reserve.ensures.ok;
    }
