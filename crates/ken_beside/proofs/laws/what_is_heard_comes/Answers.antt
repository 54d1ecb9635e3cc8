use Rattle.ken_beside.proofs.Heard.{heard_come}
use Rattle.ken_beside.proofs.laws.what_is_heard_comes.Goals as goal

pub returns : goal.returns
returns c = heard_come
