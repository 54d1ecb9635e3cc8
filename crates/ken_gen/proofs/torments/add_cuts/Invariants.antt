use Rattle.std.proofs.Common.{◌≡◌, ◌-◌}
use Rattle.ken_gen.specs.Torments.{added, items_from, may_cut, past_items, past_wide_cut, wide_cut}
use Rattle.ken_gen.proofs.torments.add_cuts.Given as goal

-- what stands there, with those that are still to be drawn, makes the whole
abbrev pub invariant-loop-made : goal.invariant-loop-made
invariant-loop-made l = record {
  so_far : added (may_cut l.restarts) l.cuts.items (items_from (wide_cut l.nodes) past_wide_cut (12 - l._made) l.generator) ≡ added (may_cut l.restarts) l.fn.cuts (items_from (wide_cut l.nodes) past_wide_cut 12 l.fn.generator);
  state : past_items past_wide_cut (12 - l._made) l.generator ≡ past_items past_wide_cut 12 l.fn.generator;
}
