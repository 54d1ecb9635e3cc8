use Rattle.ken_core.proofs.History.{start_is_in_accord}
use Rattle.ken_core.proofs.laws.start_is_in_accord.Goals as goal

pub returns : goal.returns
returns c = start_is_in_accord c.first_is_empty.ensures c.reads_what_stands.ensures
