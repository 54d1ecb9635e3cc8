use Rattle.std.proofs.Common.{◌<◌, ◌≤◌, length}
use Rattle.std.specs.List.{AllByRecursion}
use Rattle.ken_model.specs.declared.facts.Input.{Input}
use Rattle.ken_rows_groups.proofs.facts.inputs.Given as goal

abbrev pub invariant-loop : goal.invariant-loop
invariant-loop l = record {
  few : length l.inputs.items ≤ l.counter;
  each : AllByRecursion (λ (i : Input). (i.node < l.nodes) × (length i.text ≤ 512)) l.inputs.items;
}
