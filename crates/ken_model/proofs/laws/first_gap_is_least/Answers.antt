use Rattle.ken_model.proofs.Gaps.{least-fit}
use Rattle.ken_model.proofs.laws.first_gap_is_least.Goals as goal

pub returns : goal.returns
returns c = λ v n heap. least-fit 16 v.size n v.blocks heap.blocks
