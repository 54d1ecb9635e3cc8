use Rattle.std.proofs.Common.{◌≡◌, sym, ◌∙◌}
use Rattle.std.specs.Bool.{Decides}
use Rattle.std.specs.Cmp.{booleans_Decides}
use Rattle.std.proofs.lemmas.Slice.Eq.{slice_eq-Decides}
use Rattle.ken_core.proofs.number_set.Numbers.is_same.Goals as goal

pub returns : goal.returns
returns c =
    let one : c.as_slice.result.now ≡ c.args.self.now = c.as_slice.ensures.value ∙ c.self.view_is in
    let two : c.as_slice-2.result.now ≡ c.args.other.now = c.as_slice-2.ensures.value ∙ c.other.view_is in
    let same : Decides c.eq.result (c.as_slice.result.now ≡ c.as_slice-2.result.now) = slice_eq-Decides booleans_Decides _ _ _ c.eq.ensures in
    ((λ yes. sym one ∙ same.0 yes ∙ two), (λ e. same.1 (one ∙ e ∙ sym two)))
