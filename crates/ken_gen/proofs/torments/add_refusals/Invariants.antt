use Rattle.std.proofs.Common.{◌≡◌, ◌-◌}
use Rattle.ken_gen.specs.Torments.{added, items_from, may_refuse, past_refusal, refusal}
use Rattle.ken_gen.proofs.torments.add_refusals.Given as goal

-- what stands there, with those that are still to be drawn, makes the whole
abbrev pub invariant-loop-made : goal.invariant-loop-made
invariant-loop-made l = record {
  so_far : added may_refuse l.refusals.items (items_from (refusal l.nodes) past_refusal (8 - l._made) l.generator) ≡ added may_refuse l.fn.refusals (items_from (refusal l.nodes) past_refusal 8 l.fn.generator);
}
