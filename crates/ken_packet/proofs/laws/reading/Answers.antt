use Rattle.ken_packet.proofs.Whole.{packet_takes, packet_again, sender_told}
use Rattle.ken_packet.proofs.laws.reading.Goals as goal

pub returns-clause-again : goal.returns-clause-again
returns-clause-again c = packet_again

pub returns-clause-found : goal.returns-clause-found
returns-clause-found c = packet_takes

pub returns-clause-sender : goal.returns-clause-sender
returns-clause-sender c = sender_told
