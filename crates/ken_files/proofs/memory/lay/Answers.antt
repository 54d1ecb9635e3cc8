use Rattle.std.proofs.Common.{arith}
use Rattle.std.proofs.lemmas.Map.Text.{text_keys}
use Rattle.ken_files.proofs.memory.lay.Goals as goal

pub returns-clause-here : goal.returns-clause-here
returns-clause-here c = grind (arith, text_keys)

pub returns-clause-others : goal.returns-clause-others
returns-clause-others c = λ p other. grind (arith, text_keys)
