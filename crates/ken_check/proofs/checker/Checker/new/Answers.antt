use Rattle.std.proofs.Common.{refl}
use Rattle.ken_check.proofs.Starting.{start_known}
use Rattle.ken_check.proofs.checker.Checker.new.Goals as goal

pub returns : goal.returns
returns c = λ h limits. start_known h c.args.facts.now c.args.most _ limits refl refl c.in_ok-at_start.ensures refl refl refl refl refl refl refl refl refl
