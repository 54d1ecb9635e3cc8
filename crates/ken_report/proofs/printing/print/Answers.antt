use Rattle.std.proofs.Common.{◌∙◌, OnErr, Result, Ok, Err, refl}
use Rattle.std.proofs.lemmas.Result.{on_ok_weaker, on_err_weaker}
use Rattle.ken_model.specs.Report.{turn_words, emit_words, restart_words, line, closing, text}
use Rattle.ken_report.proofs.Printed.{IsPrintedTo-start, IsPrintedTo-more, IsPrintedTo-next, IsPrintedTo-fault, IsPrintedTo-end, IsPrintedTo-end_fault, flat_map-lines, heap_lines-lines}
use Rattle.ken_report.proofs.printing.print.Goals as goal

on_err : {T E P : Type 0} (r : Result T E) → P → OnErr r P
on_err (Ok x) p = tt
on_err (Err e) p = p

pub loop-turn-init : goal.loop-turn-init
unfolding text
loop-turn-init g c = record {
  printed = IsPrintedTo-start (g.K.Sink.took c.args.sink.now) c.as_slice-turn-items.ensures (flat_map-lines (λ t. line (turn_words t)) 0 c.args.lines.now.turns) refl;
  faults = refl;
}

pub loop-turn-preserved : goal.loop-turn-preserved
loop-turn-preserved g c = record {
  printed = IsPrintedTo-more c.loop-turn.invariant.printed _ c.loop-turn-test.true c.turn-item.is (rw c.turn_words.ensures at c.in_ok-print_line.ensures.written);
  faults = c.in_ok-print_line.ensures.cause.passed ∙ c.loop-turn.invariant.faults;
}

pub returns-in_err-print_line-clause-front : goal.returns-in_err-print_line-clause-front
returns-in_err-print_line-clause-front g c =
    on_err c.from_residual.result
    (IsPrintedTo-fault c.loop-turn.invariant.printed _ c.loop-turn-test.true c.turn-item.is (rw c.turn_words.ensures at c.in_err-print_line.ensures.front))

pub loop-emission-init : goal.loop-emission-init
loop-emission-init g c = record {
  printed = IsPrintedTo-next c.loop-turn.invariant.printed c.loop-turn-test.false c.as_slice-emission-items.ensures (flat_map-lines (λ e. line (emit_words e)) 0 c.args.lines.now.emissions) refl;
  faults = c.loop-turn.invariant.faults;
}

pub loop-emission-preserved : goal.loop-emission-preserved
loop-emission-preserved g c = record {
  printed = IsPrintedTo-more c.loop-emission.invariant.printed _ c.loop-emission-test.true c.emission-item.is (rw c.emit_words.ensures at c.in_ok-print_line-2.ensures.written);
  faults = c.in_ok-print_line-2.ensures.cause.passed ∙ c.loop-emission.invariant.faults;
}

pub returns-in_err-print_line-2-clause-front : goal.returns-in_err-print_line-2-clause-front
returns-in_err-print_line-2-clause-front g c =
    on_err c.from_residual-in_err-print_line-2.result
    (IsPrintedTo-fault c.loop-emission.invariant.printed _ c.loop-emission-test.true c.emission-item.is (rw c.emit_words.ensures at c.in_err-print_line-2.ensures.front))

pub loop-restart-init : goal.loop-restart-init
loop-restart-init g c = record {
  printed = IsPrintedTo-next c.loop-emission.invariant.printed c.loop-emission-test.false c.as_slice-restart-items.ensures (flat_map-lines (λ r. line (restart_words r)) 0 c.args.lines.now.restarts) refl;
  faults = c.loop-emission.invariant.faults;
}

pub loop-restart-preserved : goal.loop-restart-preserved
loop-restart-preserved g c = record {
  printed = IsPrintedTo-more c.loop-restart.invariant.printed _ c.loop-restart-test.true refl (rw c.restart_words.ensures at c.in_ok-print_line-3.ensures.written);
  faults = c.in_ok-print_line-3.ensures.cause.passed ∙ c.loop-restart.invariant.faults;
}

pub returns-in_err-print_line-3-clause-front : goal.returns-in_err-print_line-3-clause-front
returns-in_err-print_line-3-clause-front g c =
    on_err c.from_residual-in_err-print_line-3.result
    (IsPrintedTo-fault c.loop-restart.invariant.printed _ c.loop-restart-test.true refl (rw c.restart_words.ensures at c.in_err-print_line-3.ensures.front))

pub loop-node-init : goal.loop-node-init
unfolding closing
loop-node-init g c = record {
  printed = IsPrintedTo-next c.loop-restart.invariant.printed c.loop-restart-test.false c.as_slice-heap-items.ensures (heap_lines-lines 0 c.args.lines.now.heaps) refl;
  faults = c.loop-restart.invariant.faults;
}

pub loop-node-preserved : goal.loop-node-preserved
loop-node-preserved g c = record {
  printed = IsPrintedTo-more c.loop-node.invariant.printed _ c.loop-node-test.true c.heap-item.is (rw (c.deref.ensures.value, c.in_ok-heap_words.ensures) at c.in_ok-print_line-4.ensures.written);
  faults = c.in_ok-print_line-4.ensures.cause.passed ∙ c.loop-node.invariant.faults;
}

pub returns-in_err-print_line-4-clause-front : goal.returns-in_err-print_line-4-clause-front
returns-in_err-print_line-4-clause-front g c =
    on_err c.from_residual-in_err-print_line-4.result
    (IsPrintedTo-fault c.loop-node.invariant.printed _ c.loop-node-test.true c.heap-item.is (rw (c.deref.ensures.value, c.in_ok-heap_words.ensures) at c.in_err-print_line-4.ensures.front))

pub returns-clause-written : goal.returns-clause-written
returns-clause-written g c = on_ok_weaker c.print_end.result (IsPrintedTo-end c.loop-node.invariant.printed (g.K.Sink.took c.print_end.new.sink) c.loop-node-test.false) c.print_end.ensures.written

pub returns-clause-front : goal.returns-clause-front
returns-clause-front g c = on_err_weaker c.print_end.result (IsPrintedTo-end_fault c.loop-node.invariant.printed c.loop-node-test.false) c.print_end.ensures.front
