use Rattle.std.proofs.Common.{◌≡◌, ◌-◌, [], ◌++◌}
use Rattle.ken_gen.specs.Mishaps.{acts_from, past_acts, is_same_put, without_repeats}
use Rattle.ken_gen.proofs.mishaps.draw_acts.Given as goal

-- the acts so far, with those that are still to be kept, are all
abbrev pub invariant-loop-made : goal.invariant-loop-made
invariant-loop-made l = record {
  so_far : l.acts.items ++ without_repeats is_same_put l.acts.items (acts_from l.nodes (l.count - l._made) l.generator) ≡ without_repeats is_same_put [] (acts_from l.nodes l.count l.fn.generator);
  state : past_acts (l.count - l._made) l.generator ≡ past_acts l.count l.fn.generator;
}
