use Rattle.ken_packet.proofs.Whole.{one_packet}
use Rattle.ken_packet.proofs.laws.one_spelling.Goals as goal

pub returns : goal.returns
returns c = one_packet
