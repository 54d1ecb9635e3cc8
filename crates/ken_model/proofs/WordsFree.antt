-- A report's words hold no space and no line feed, but for an emission's text, which may hold spaces.
use Rattle.std.proofs.Common.{◌≡◌, ℕ, ◌<◌, ◌≤◌, List, [], ◌∷◌, map, length, All, Bool, true, false, ◌==◌, if◌then◌else◌, codes, decimal, rules, arith, ne_eqb}
use Rattle.std.specs.List.{AllByRecursion}
use Rattle.std.proofs.lemmas.List.Elements.{All-weaker, All-from_recursion}
use Rattle.ken_model.specs.declared.values.Block.{Block}
use Rattle.ken_model.specs.declared.values.Value.{Value}
use Rattle.ken_model.specs.declared.reports.TurnLine.{TurnLine}
use Rattle.ken_model.specs.declared.reports.Emission.{Emission}
use Rattle.ken_model.specs.declared.reports.RestartLine.{RestartLine}
use Rattle.ken_model.specs.declared.reports.Ending.{Ending}
use Rattle.ken_model.specs.declared.reports.Ending.TheVariants.{Settled, Cut}
use Rattle.ken_model.specs.Report.{draws_word, block_word, turn_words, emit_words, restart_words, heap_words, end_words}
use Rattle.ken_model.specs.Spelling.{IsWord, IsPrintableTurn, IsPrintableEmission, IsPrintableHeap}
use Rattle.ken_model.proofs.Parts.{IsFree, All-join_with_byte}
use Rattle.ken_num.proofs.Decimals.{All-decimal}
use Rattle.ken_model.proofs.NumbersRead.{each_decimal}

-- a byte that is no space, no line feed and no other control character
abbrev pub IsInk : ℕ → Type 0
IsInk b = 32 < b

-- words of such bytes
abbrev pub AreInk : List (List ℕ) → Type 0
AreInk words = AllByRecursion (All IsInk) words

-- such a word holds no space and no line feed
free_from_ink : (c : ℕ) → c ≤ 32 → (word : List ℕ) → All IsInk word → IsFree c word
free_from_ink c small word ink = All-weaker IsInk (λ b. (b == c) ≡ false) (λ b dark. ne_eqb b c (λ e. omega arith)) word ink

-- nor do many
pub each_free : (c : ℕ) → c ≤ 32 → (words : List (List ℕ)) → AreInk words → AllByRecursion (IsFree c) words
each_free c small [] ink = tt
each_free c small (w ∷ words) ink = (free_from_ink c small w ink.0, each_free c small words ink.1)

-- a text in which no byte is a line feed
free_text : (bytes : List ℕ) → AllByRecursion (λ b. (b ≡ 10) → ⊥) bytes → IsFree 10 bytes
free_text bytes other = All-weaker (λ b. (b ≡ 10) → ⊥) (λ b. (b == 10) ≡ false) (λ b differs. ne_eqb b 10 differs) bytes (All-from_recursion (λ b. (b ≡ 10) → ⊥) bytes other)

-- a word written out
ink_literal : (word : List ℕ) → AllByRecursion IsInk word → All IsInk word
ink_literal word ink = All-from_recursion IsInk word ink

-- a number
ink_decimal : (n : ℕ) → IsWord n → All IsInk (decimal n)
ink_decimal n word = All-decimal IsInk (λ b digit. omega arith) n word

-- a sender, by whether it is the outside
ink_sender_choice : (u : ℕ) (t : Bool) → IsWord u → All IsInk (if t then codes "out" else decimal u)
ink_sender_choice u true word = ink_literal (codes "out") (search rules)
ink_sender_choice u false word = ink_decimal u word

-- draws
ink_draws_word : (draws : List ℕ) → AllByRecursion IsWord draws → All IsInk (draws_word draws)
ink_draws_word [] words = ink_literal (codes "-") (search rules)
ink_draws_word (d ∷ ds) words = All-join_with_byte IsInk 44 (omega arith) (map decimal (d ∷ ds)) (each_decimal IsInk (λ b digit. omega arith) (d ∷ ds) words)

-- blocks
ink_block_words : (blocks : List Block) → AllByRecursion (λ (b : Block). IsWord b.place × IsWord (length b.bytes)) blocks → AreInk (map block_word blocks)
ink_block_words [] words = tt
ink_block_words (b ∷ bs) words = (All-join_with_byte IsInk 58 (omega arith) (decimal b.place ∷ decimal (length b.bytes) ∷ []) (ink_decimal b.place words.0.0, (ink_decimal (length b.bytes) words.0.1, tt)), ink_block_words bs words.1)

-- the words of a turn's line
pub ink_turn_words : (l : TurnLine) → IsPrintableTurn l → AreInk (turn_words l)
ink_turn_words l p = search (rules, ink_literal, ink_decimal, ink_sender_choice, ink_draws_word)

-- the words of an emission's line before its text
pub ink_emit_front : (e : Emission) → IsPrintableEmission e → AreInk (codes "emit" ∷ decimal e.node ∷ decimal e.out.number ∷ [])
ink_emit_front e p = search (rules, ink_literal, ink_decimal)

-- no word of an emission's line holds a line feed
pub free_emit_words : (e : Emission) → IsPrintableEmission e → AllByRecursion (IsFree 10) (emit_words e)
free_emit_words e p = search (rules, free_from_ink, ink_literal, ink_decimal, free_text)

-- the words of a restart's line
pub ink_restart_words : (r : RestartLine) → IsWord r.node × IsWord r.turns → AreInk (restart_words r)
ink_restart_words r p = search (rules, ink_literal, ink_decimal)

-- the words of a heap's line
pub ink_heap_words : (node : ℕ) (value : Value) → IsWord node → IsPrintableHeap value → AreInk (heap_words node value)
ink_heap_words node value word p = search (rules, ink_literal, ink_decimal, ink_block_words)

-- the words of the end
pub ink_end_words : (ending : Ending) (turns waits : ℕ) → IsWord turns → IsWord waits → AreInk (end_words ending turns waits)
ink_end_words Settled turns waits t w = search (rules, ink_literal, ink_decimal)
ink_end_words Cut turns waits t w = search (rules, ink_literal, ink_decimal)
