use Rattle.std.proofs.Common.{ℕ, ◌<◌, length, drop, map}
use Rattle.ken_model.specs.Network.{inputs_from}
use Rattle.ken_actors.specs.Held.{held_at}
use Rattle.ken_actors.specs.Nodes.{held_of, IsGiven}
use Rattle.ken_actors.proofs.network.give_inputs.Given as goal

-- the inputs that a node has, and those that are still to come, are its inputs
abbrev pub invariant-loop-input : goal.invariant-loop-input
invariant-loop-input l = (v : ℕ) → v < l.facts.nodes
    → IsGiven l.facts.nodes (held_at (map held_of l.nodes) v) (inputs_from v (length (held_at (map held_of l.nodes) v).inputs) (drop l.input-index l.facts.inputs)) (inputs_from v 0 l.facts.inputs)
