use Rattle.std.proofs.Common.{◌≡◌, ◌++◌, drop, length}
use Rattle.ken_model.specs.Network.{inputs_from}
use Rattle.ken_core.proofs.first.inputs.Given as goal

abbrev pub invariant-loop-input : goal.invariant-loop-input
invariant-loop-input l = l.inputs.items ++ inputs_from l.node (length l.inputs.items) (drop l.input-index l.facts.inputs) ≡ inputs_from l.node 0 l.facts.inputs
