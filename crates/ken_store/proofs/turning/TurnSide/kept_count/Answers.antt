use Rattle.ken_store.proofs.Sizing.{nones_at}
use Rattle.ken_store.proofs.turning.TurnSide.kept_count.Goals as goal

pub count_in-requires-clause-none : goal.count_in-requires-clause-none
count_in-requires-clause-none g c = nones_at 4096
