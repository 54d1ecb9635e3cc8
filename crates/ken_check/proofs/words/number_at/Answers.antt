use Rattle.std.proofs.Common.{rules}
use Rattle.ken_check.proofs.Wording.{decimal_read, same_word}
use Rattle.ken_check.proofs.words.number_at.Goals as goal

pub returns : goal.returns
returns c = λ n small at. decimal_read n small c.in_ok-word.field-0.now (same_word _ _ _ c.in_ok-word.ensures at) c.decimal.result (search (rules, c.decimal.type_inv)) c.decimal.ensures
