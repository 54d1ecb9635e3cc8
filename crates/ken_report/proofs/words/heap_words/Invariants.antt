use Rattle.std.proofs.Common.{◌≡◌, ◌++◌, map, drop}
use Rattle.ken_model.specs.Report.{heap_words, block_word}
use Rattle.ken_report.specs.Words.{spelled}
use Rattle.ken_report.proofs.words.heap_words.Given as goal

abbrev pub invariant-loop-block : goal.invariant-loop-block
invariant-loop-block l = map spelled l.words.items ++ map block_word (drop l.block-index l.heap.blocks) ≡ heap_words l.node l.heap
