use Rattle.std.proofs.Common.{◌≡◌, ◌≤◌, Some, take}
use Rattle.ken_model.specs.declared.facts.TheConstants.{MAX_INPUTS}
use Rattle.serde_json.specs.View.{items_view}
use Rattle.ken_script.specs.Keys.{listed}
use Rattle.ken_script.specs.Inputs.{inputs_of}
use Rattle.ken_script.proofs.inputs.inputs_of.Given as goal

abbrev pub invariant-loop-place : goal.invariant-loop-place
invariant-loop-place l =
    (inputs_of l.nodes (listed (items_view (take l.place l.items))) ≡ Some l.inputs.items) × (l.place ≤ MAX_INPUTS)
