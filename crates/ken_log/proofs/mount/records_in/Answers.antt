use Rattle.std.proofs.Common.{arith}
use Rattle.ken_record.specs.Versions.{One}
use Rattle.ken_log.proofs.Taken.{finds_none, finds_within, finds_next, finds_end, finds_all, next_some, next_none}
use Rattle.ken_log.proofs.mount.records_in.Goals as goal

pub loop-init : goal.loop-init
loop-init c = rw c.new-records.ensures.items (finds_none c.args.place c.args.bytes.now c.args.most)

pub overflow_add-end : goal.overflow_add-end
overflow_add-end c =
    let n = next_some One c.in_ok-next.field-0 c.in-Some.next c.in-Some.is (λ x. x.0) (λ x. x.1.now) c.loop.end c.loop.rest.now c.in_ok-next.ensures in
    let w = finds_within c.args.place c.args.bytes.now c.args.most c.loop.counter c.loop.records.items c.loop.end c.loop.rest.now c.loop.invariant c.loop-test.true c.in-Some.next.0 c.in-Some.next.1.now n in
    omega (arith, w, c.requires, c.ranges.most.fits)

pub returns-in-None-clause-mounts : goal.returns-in-None-clause-mounts
returns-in-None-clause-mounts c =
    let n = next_none One c.in_ok-next.field-0 c.in-None.is (λ x. x.0) (λ x. x.1.now) c.loop.end c.loop.rest.now c.in_ok-next.ensures in
    finds_end c.args.place c.args.bytes.now c.args.most c.loop.counter c.loop.records.items c.loop.end c.loop.rest.now c.loop.invariant c.loop-test.true n

pub loop-preserved : goal.loop-preserved
loop-preserved c =
    let n = next_some One c.in_ok-next.field-0 c.in-Some.next c.in-Some.is (λ x. x.0) (λ x. x.1.now) c.loop.end c.loop.rest.now c.in_ok-next.ensures in
    rw c.in_ok-push-in-Some.ensures.items (finds_next c.args.place c.args.bytes.now c.args.most c.loop.counter c.loop.records.items c.loop.end c.loop.rest.now c.loop.invariant c.loop-test.true c.in-Some.next.0 c.in-Some.next.1.now n)

pub returns-clause-mounts : goal.returns-clause-mounts
returns-clause-mounts c = finds_all c.args.place c.args.bytes.now c.args.most c.loop.counter c.loop.records.items c.loop.end c.loop.rest.now c.loop.invariant c.loop-test.false
