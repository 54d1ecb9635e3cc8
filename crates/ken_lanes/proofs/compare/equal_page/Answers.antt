use Rattle.std.proofs.Common.{◌≡◌, Bool, true, false, None, Some, refl, sym, ap, ◌∙◌}
use Rattle.std.specs.Prelude.{ℕ, not, Option}
use Rattle.std.specs.Option.{is_some}
use Rattle.std.proofs.lemmas.Bool.{true≢false}
use Rattle.ken_lanes.proofs.Blocks.{none_if_same, same_if_none}
use Rattle.ken_lanes.proofs.compare.equal_page.Goals as goal

none_of : (o : Option ℕ) (t : Bool) → is_some o ≡ not t → t ≡ true → o ≡ None
none_of None t e s = refl
none_of (Some n) t e s = absurd (true≢false (e ∙ ap not s))

true_of : (o : Option ℕ) (t : Bool) → is_some o ≡ not t → o ≡ None → t ≡ true
true_of o true e s = refl
true_of o false e s = absurd (true≢false (sym e ∙ ap is_some s))

pub returns : goal.returns
returns c = (
  λ t. same_if_none _ _ (sym c.first_difference.ensures ∙ none_of _ _ c.is_none.ensures t),
  λ s. true_of _ _ c.is_none.ensures (c.first_difference.ensures ∙ none_if_same _ _ s),
)
