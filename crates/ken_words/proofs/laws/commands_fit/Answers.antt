use Rattle.ken_words.proofs.Ranges.{commands_fit}
use Rattle.ken_words.proofs.laws.commands_fit.Goals as goal

pub returns : goal.returns
returns c = commands_fit
