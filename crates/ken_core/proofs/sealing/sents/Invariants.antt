use Rattle.std.proofs.Common.{◌≡◌, take, map}
use Rattle.ken_core.specs.Turns.{sent_of}
use Rattle.ken_core.proofs.sealing.sents.Given as goal

abbrev pub invariant-loop-mail : goal.invariant-loop-mail
invariant-loop-mail l = l.sends.items ≡ map sent_of (take l.mail-index l.mails)
