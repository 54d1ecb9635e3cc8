use Rattle.ken_record.proofs.Fronts.{one_item, two_kinds}
use Rattle.ken_record.proofs.laws.one_spelling.Goals as goal

pub returns-clause-one : goal.returns-clause-one
returns-clause-one c = one_item

pub returns-clause-apart : goal.returns-clause-apart
returns-clause-apart c = two_kinds
