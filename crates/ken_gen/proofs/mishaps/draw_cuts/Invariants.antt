use Rattle.std.proofs.Common.{◌≡◌, ◌-◌, [], ◌++◌}
use Rattle.ken_gen.specs.Mishaps.{cuts_from, past_cuts, is_same_call, without_repeats}
use Rattle.ken_gen.proofs.mishaps.draw_cuts.Given as goal

-- the cuts so far, with those that are still to be kept, are all
abbrev pub invariant-loop-made : goal.invariant-loop-made
invariant-loop-made l = record {
  so_far : l.cuts.items ++ without_repeats is_same_call l.cuts.items (cuts_from l.nodes (l.count - l._made) l.generator) ≡ without_repeats is_same_call [] (cuts_from l.nodes l.count l.fn.generator);
  state : past_cuts (l.count - l._made) l.generator ≡ past_cuts l.count l.fn.generator;
}
