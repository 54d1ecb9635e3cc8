use Rattle.std.proofs.Common.{◌≡◌, ◌++◌, length, drop}
use Rattle.ken_model.specs.Network.{inputs_from}
use Rattle.ken_work.proofs.inputs.inputs_for.Given as goal

-- those made so far, and then those of the inputs that are left
abbrev pub invariant-loop-input : goal.invariant-loop-input
invariant-loop-input l = l.messages.items ++ inputs_from l.node (length l.messages.items) (drop l.input-index l.inputs) ≡ inputs_from l.node 0 l.inputs
