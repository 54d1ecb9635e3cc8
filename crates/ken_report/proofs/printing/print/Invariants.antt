use Rattle.std.proofs.Common.{◌≡◌, ◌++◌, flat_map, length}
use Rattle.ken_model.specs.Report.{turn_words, emit_words, restart_words, heap_words, end_words, line, closing, text}
use Rattle.ken_report.proofs.Printed.{IsPrintedTo}
use Rattle.ken_report.proofs.printing.print.Given as goal

abbrev pub invariant-loop-turn : goal.invariant-loop-turn
invariant-loop-turn g l = record {
  printed : IsPrintedTo (λ _ t. line (turn_words t)) l.turn-items l.turn-index (flat_map (λ e. line (emit_words e)) l.lines.emissions ++ (flat_map (λ r. line (restart_words r)) l.lines.restarts ++ closing l.lines)) (text l.lines) (g.K.Sink.took l.fn.sink) (g.K.Sink.took l.sink);
  faults : g.K.Sink.faults l.sink ≡ g.K.Sink.faults l.fn.sink;
}

abbrev pub invariant-loop-emission : goal.invariant-loop-emission
invariant-loop-emission g l = record {
  printed : IsPrintedTo (λ _ e. line (emit_words e)) l.emission-items l.emission-index (flat_map (λ r. line (restart_words r)) l.lines.restarts ++ closing l.lines) (text l.lines) (g.K.Sink.took l.fn.sink) (g.K.Sink.took l.sink);
  faults : g.K.Sink.faults l.sink ≡ g.K.Sink.faults l.fn.sink;
}

abbrev pub invariant-loop-restart : goal.invariant-loop-restart
invariant-loop-restart g l = record {
  printed : IsPrintedTo (λ _ r. line (restart_words r)) l.restart-items l.restart-index (closing l.lines) (text l.lines) (g.K.Sink.took l.fn.sink) (g.K.Sink.took l.sink);
  faults : g.K.Sink.faults l.sink ≡ g.K.Sink.faults l.fn.sink;
}

abbrev pub invariant-loop-node : goal.invariant-loop-node
invariant-loop-node g l = record {
  printed : IsPrintedTo (λ n v. line (heap_words n v)) l.heap-items l.node (line (end_words l.lines.ending (length l.lines.turns) l.lines.waiting)) (text l.lines) (g.K.Sink.took l.fn.sink) (g.K.Sink.took l.sink);
  faults : g.K.Sink.faults l.sink ≡ g.K.Sink.faults l.fn.sink;
}
