use Rattle.ken_apps.proofs.MoneyForms.{messages_are_credits}
use Rattle.ken_apps.proofs.laws.messages_are_credits.Goals as goal

pub returns : goal.returns
returns c = messages_are_credits
