-- What a word of a printed line spells.
use Rattle.std.specs.Prelude.{ℕ, List, decimal}
use Rattle.ken_model.specs.Report.{sender_word, draws_word, block_word}
use Rattle.ken_report.specs.declared.words.Word.{Word}
use Rattle.ken_report.specs.declared.words.Word.TheVariants.{Text, Number, Sender, Draws, Block}

abbrev pub spelled : Word → List ℕ
spelled (Text text) = text.now
spelled (Number number) = decimal number
spelled (Sender from) = sender_word from
spelled (Draws draws) = draws_word draws.now
spelled (Block block) = block_word block.now
