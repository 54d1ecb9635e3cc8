use Rattle.std.proofs.Common.{◌==◌, count_by, take}
use Rattle.ken_model.specs.declared.facts.Input.{Input}
use Rattle.ken_check.specs.Counts.{Counted}
use Rattle.ken_check.proofs.known.give.Given as goal

-- the inputs so far are counted
abbrev pub invariant-loop-input : goal.invariant-loop-input
invariant-loop-input l = Counted (λ v. count_by (λ (i : Input). i.node == v) (take l.input-index l.inputs)) l.fn.nodes l.nodes
