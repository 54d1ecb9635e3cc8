use Rattle.std.proofs.Common.{ℕ, ◌∙◌, ap}
use Rattle.std.specs.Map.{lookup}
use Rattle.std.specs.BTreeMap.{is_at}
use Rattle.std.specs.Ordering.{nat_cmp}
use Rattle.ken_net.specs.Standings.{next_act}
use Rattle.ken_net.proofs.link.Link.next_act.Goals as goal

pub returns : goal.returns
returns c =
    c.copied.ensures
    ∙ c.get.ensures.value
    ∙ ap (λ (n : ℕ). lookup (is_at (nat_cmp n)) c.self.inside.acts.entries) c.saturating_add.ensures
    ∙ ap next_act c.self.view_is
