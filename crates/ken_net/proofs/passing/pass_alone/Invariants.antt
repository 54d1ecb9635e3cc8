use Rattle.ken_packet.specs.Reading.{packet_of}
use Rattle.ken_net.specs.Puts.{own_sealed, own_consumed}
use Rattle.ken_net.proofs.passing.pass_alone.Given as goal

abbrev pub ghosts-pass_one : goal.ghosts-pass_one
ghosts-pass_one g a = record { sealed = own_sealed (packet_of a.bytes); consumed = own_consumed (packet_of a.bytes) }
