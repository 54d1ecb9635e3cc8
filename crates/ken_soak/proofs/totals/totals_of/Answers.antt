use Rattle.std.proofs.Common.{rules, ◌≡◌, ◌<◌, length, map, get_or, [], ap, ◌∙◌, arith}
use Rattle.std.proofs.lemmas.List.{get_or-map, length-map}
use Rattle.ken_model.specs.declared.values.Value.{Value}
use Rattle.ken_gen.specs.declared.soaks.NodeTotal.{NodeTotal}
use Rattle.ken_soak.specs.Totals.{at_root}
use Rattle.ken_soak.proofs.totals.totals_of.Goals as goal

abbrev no_value : Value
no_value = record { size = 0; root = 0; blocks = [] }

-- no turns are counted yet, and so few lines are in memory
pub count_turns-requires : goal.count_turns-requires
count_turns-requires c = record {
  room = λ v known none.
      let same : c.deref_mut.result.now ≡ map at_root c.as_slice.result.now = search rules in
      let short : length c.as_slice-2.result.now < 18446744073709551616 = search rules in
      let here = get_or-map at_root c.as_slice.result.now v no_value none (omega (arith, known, ap length same, length-map c.as_slice.result.now at_root)) in
      let no_turns : (get_or c.deref_mut.result.now v none).turns ≡ 0 = ap (λ (t : NodeTotal). t.turns) (ap (λ ts. get_or ts v none) same ∙ here) in
      omega (arith, no_turns, short);
}
