use Rattle.ken_net.proofs.MayPut.{mail_may, ack_may, alone_may}
use Rattle.ken_net.proofs.laws.what_may_be_put.Goals as goal

pub returns-clause-mail : goal.returns-clause-mail
returns-clause-mail c = mail_may

pub returns-clause-ack : goal.returns-clause-ack
returns-clause-ack c = ack_may

pub returns-clause-alone : goal.returns-clause-alone
returns-clause-alone c = alone_may
