use Rattle.ken_apps.proofs.MoneyForms.{blocks_are_accounts}
use Rattle.ken_apps.proofs.laws.blocks_are_accounts.Goals as goal

pub returns : goal.returns
returns c = blocks_are_accounts
