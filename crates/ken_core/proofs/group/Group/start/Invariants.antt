use Rattle.std.proofs.Common.{◌≡◌, ℕ, length, slice_get, Some}
use Rattle.ken_model.specs.Game.{game_of}
use Rattle.ken_core.specs.declared.machine.Machine.{Machine}
use Rattle.ken_core.specs.First.{IsFirst}
use Rattle.ken_core.proofs.group.Group.start.Given as goal

abbrev pub invariant-loop-node : goal.invariant-loop-node
invariant-loop-node l = record {
  width : length l.machines.items ≡ l.node;
  each : (v : ℕ) (m : Machine) → slice_get l.machines.items v ≡ Some m → IsFirst (game_of l.facts) v m;
}
