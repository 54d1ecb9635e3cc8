use Rattle.std.proofs.Common.{◌≡◌, ◌-◌, ◌++◌}
use Rattle.ken_gen.specs.Inputs.{inputs_from, past_inputs}
use Rattle.ken_gen.proofs.inputs.draw_inputs.Given as goal

-- the inputs so far, with those that are still to be made, are all
abbrev pub invariant-loop-made : goal.invariant-loop-made
invariant-loop-made l = record {
  so_far : l.inputs.items ++ inputs_from l.nodes (l.count - l._made) l.generator ≡ inputs_from l.nodes l.count l.fn.generator;
  state : past_inputs (l.count - l._made) l.generator ≡ past_inputs l.count l.fn.generator;
}
