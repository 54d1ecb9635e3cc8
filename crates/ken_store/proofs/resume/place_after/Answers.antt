use Rattle.std.proofs.Common.{arith}
use Rattle.ken_store.proofs.Places.{gate_within}
use Rattle.ken_store.proofs.resume.place_after.Goals as goal

pub overflow_add-gate : goal.overflow_add-gate
overflow_add-gate c =
    let within = gate_within c.args.place c.loop-record.gate c.loop-record.record-index c.args.records.now c.record-item.result c.loop-record-test.true c.record-item.is c.loop-record.invariant in
    omega (arith, within, c.requires.end, c.spelled_len.ensures)

pub overflow_add-gate-in-loop-record : goal.overflow_add-gate-in-loop-record
overflow_add-gate-in-loop-record c =
    let within = gate_within c.args.place c.loop-record.gate c.loop-record.record-index c.args.records.now c.record-item.result c.loop-record-test.true c.record-item.is c.loop-record.invariant in
    omega (arith, within, c.requires.end, c.spelled_len.ensures)
