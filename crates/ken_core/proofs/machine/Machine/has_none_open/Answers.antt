use Rattle.ken_core.proofs.Fits.{none_in, all_none}
use Rattle.ken_core.proofs.machine.Machine.has_none_open.Goals as goal

pub returns : goal.returns
returns c = ((λ holds. none_in c.args.self.now.pages.opened (c.is_empty.ensures.0 holds)), (λ none. c.is_empty.ensures.1 (all_none c.args.self.now.pages.opened none)))
