use Rattle.std.proofs.Common.{◌≡◌, ◌+◌, ℕ, List, length, None}
use Rattle.ken_weave.specs.Workers.{Steps}
use Rattle.ken_threads.proofs.works.run.Given as goal

abbrev pub invariant-loop-step : goal.invariant-loop-step
invariant-loop-step g l = record {
  made : (states : List _) × (Steps g.W.Works.steps l.initial.seat.worker states l.seat.worker × (length states ≡ l.step));
  may : (count : ℕ) → count + l.step ≡ 16 → g.W.Works.may count l.seat.worker;
  node : l.seat.node ≡ l.initial.seat.node;
  fault : l.seat.fault ≡ None;
}
