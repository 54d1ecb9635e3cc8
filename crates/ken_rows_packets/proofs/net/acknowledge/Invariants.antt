use Rattle.ken_packet.specs.Reading.{packet_of}
use Rattle.ken_net.specs.Puts.{own_sealed, own_consumed}
use Rattle.ken_rows_packets.proofs.net.acknowledge.Given as goal

abbrev pub ghosts-put_as : goal.ghosts-put_as
ghosts-put_as a = record { sealed = own_sealed (packet_of a.bytes); consumed = own_consumed (packet_of a.bytes) }
