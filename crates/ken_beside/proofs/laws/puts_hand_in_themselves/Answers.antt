use Rattle.ken_beside.proofs.HandedIn.{puts_hand_in_themselves, shuffled_are_among}
use Rattle.ken_beside.proofs.laws.puts_hand_in_themselves.Goals as goal

pub returns-clause-handed : goal.returns-clause-handed
returns-clause-handed c = puts_hand_in_themselves

pub returns-clause-among : goal.returns-clause-among
returns-clause-among c = shuffled_are_among
