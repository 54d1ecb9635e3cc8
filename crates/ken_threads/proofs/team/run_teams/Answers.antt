use Rattle.std.proofs.Common.{rules}
use Rattle.std.proofs.iter.Serving.{serving}
use Rattle.ken_threads.proofs.team.run_teams.Goals as goal

pub scoped-requires : goal.scoped-requires
scoped-requires g c = record { at = λ a. ((grind serving, grind serving, grind serving, grind serving, grind serving, c.requires), (grind serving, grind serving, grind serving, grind serving, grind serving)) }
