use Rattle.ken_model.proofs.Headers.{wrong_breaks}
use Rattle.ken_alloc.proofs.adopt.check_header.Goals as goal

pub returns-in-Some-clause-place : goal.returns-in-Some-clause-place
returns-in-Some-clause-place c = wrong_breaks c.args.pages.now.bytes c.read.new.buf c.pages-count.result c.pages-count.ensures.bytes c.read.ensures c.in-Some.place c.in-Some.ensures.wrong
