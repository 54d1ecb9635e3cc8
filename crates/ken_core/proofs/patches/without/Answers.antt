use Rattle.std.proofs.Common.{◌==◌, not, rules, ap, ◌∙◌}
use Rattle.std.specs.List.{filter}
use Rattle.std.proofs.lemmas.Fn.{filter_same}
use Rattle.ken_cover.specs.declared.layers.Change.{Change}
use Rattle.ken_core.proofs.patches.without.Goals as goal

pub returns : goal.returns
returns c = filter_same _ (λ (x : Change). not (x.page.page == c.args.page)) _ (λ x b f' k. search rules) _ _ c.retain.ensures.filtered ∙ ap (filter (λ (x : Change). not (x.page.page == c.args.page))) c.into_vec-changes.ensures
