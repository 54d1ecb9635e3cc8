use Rattle.std.proofs.Common.{◌≡◌, ◌-◌}
use Rattle.ken_gen.specs.Torments.{added, items_from, may_act, past_items, past_wide_act, wide_act}
use Rattle.ken_gen.proofs.torments.add_acts.Given as goal

-- what stands there, with those that are still to be drawn, makes the whole
abbrev pub invariant-loop-made : goal.invariant-loop-made
invariant-loop-made l = record {
  so_far : added may_act l.acts.items (items_from (wide_act l.nodes) past_wide_act (l.count - l._made) l.generator) ≡ added may_act l.fn.acts (items_from (wide_act l.nodes) past_wide_act l.count l.fn.generator);
  state : past_items past_wide_act (l.count - l._made) l.generator ≡ past_items past_wide_act l.count l.fn.generator;
}
