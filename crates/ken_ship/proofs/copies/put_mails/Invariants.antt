use Rattle.std.proofs.Common.{◌≡◌, take, map}
use Rattle.ken_core.specs.Turns.{mail_of}
use Rattle.ken_ship.proofs.copies.put_mails.Given as goal

abbrev pub invariant-loop-sent : goal.invariant-loop-sent
invariant-loop-sent l = l.mails.items ≡ map (mail_of l.node l.stamp) (take l.sent-index l.sends)
