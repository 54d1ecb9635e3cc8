use Rattle.ken_apps.proofs.MoneyKept.{money_is_kept}
use Rattle.ken_apps.proofs.laws.money_is_kept.Goals as goal

pub returns : goal.returns
returns c = money_is_kept
