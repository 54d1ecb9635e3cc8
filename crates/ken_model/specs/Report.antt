-- The text of a report.
use Rattle.std.specs.Prelude.{◌≡◌, ℕ, ◌+◌, List, [], ◌∷◌, ◌++◌, map, length, ◌==◌, if◌then◌else◌, codes, decimal, flat_map}
use Rattle.std.specs.List.{join_with_byte, AllByRecursion}
use Rattle.ken_model.specs.declared.values.Block.{Block}
use Rattle.ken_model.specs.declared.values.Value.{Value}
use Rattle.ken_model.specs.declared.messages.Step.{Step}
use Rattle.ken_model.specs.declared.reports.TurnLine.{TurnLine}
use Rattle.ken_model.specs.declared.reports.Emission.{Emission}
use Rattle.ken_model.specs.declared.reports.RestartLine.{RestartLine}
use Rattle.ken_model.specs.declared.reports.Lines.{Lines}
use Rattle.ken_model.specs.declared.reports.Ending.{Ending}
use Rattle.ken_model.specs.declared.reports.Ending.TheVariants.{Settled, Cut}
use Rattle.ken_model.specs.Game.{Game}
use Rattle.ken_model.specs.Network.{start, outside}
use Rattle.ken_model.specs.Schedule.{play, turn_lines}
use Rattle.ken_model.specs.Ending.{nodes_of, waiting}

-- no line feed, so that a text is part of one line
abbrev pub IsOneLine : List ℕ → Type 0
IsOneLine bytes = AllByRecursion (λ b. (b ≡ 10) → ⊥) bytes

-- words with a space between two, and a line feed at the end
unfoldable pub line : List (List ℕ) → List ℕ
line words = join_with_byte 32 words ++ 10 ∷ []

-- the word of a sender
abbrev pub sender_word : ℕ → List ℕ
sender_word u = if u == outside then codes "out" else decimal u

-- the word of a turn's draws: numbers joined by commas, or `-`
abbrev pub draws_word : List ℕ → List ℕ
draws_word [] = codes "-"
draws_word (d ∷ ds) = join_with_byte 44 (map decimal (d ∷ ds))

abbrev pub turn_words : TurnLine → List (List ℕ)
turn_words l = codes "turn" ∷ decimal l.stamp ∷ decimal l.step.node ∷ sender_word l.step.from ∷ decimal l.number ∷ draws_word l.step.draws ∷ []

abbrev pub emit_words : Emission → List (List ℕ)
emit_words e = codes "emit" ∷ decimal e.node ∷ decimal e.out.number ∷ e.out.text ∷ []

abbrev pub restart_words : RestartLine → List (List ℕ)
restart_words r = codes "restart" ∷ decimal r.node ∷ codes "at" ∷ decimal r.turns ∷ []

-- a block's place and length, joined by a colon
abbrev pub block_word : Block → List ℕ
block_word b = join_with_byte 58 (decimal b.place ∷ decimal (length b.bytes) ∷ [])

abbrev pub heap_words : ℕ → Value → List (List ℕ)
heap_words node value = codes "heap" ∷ decimal node ∷ decimal value.root ∷ map block_word value.blocks

abbrev pub end_words : Ending → ℕ → ℕ → List (List ℕ)
end_words Settled turns waits = codes "end" ∷ codes "settled" ∷ decimal turns ∷ []
end_words Cut turns waits = codes "end" ∷ codes "cut" ∷ decimal turns ∷ decimal waits ∷ []

-- the heap lines, from that node on
unfoldable pub heap_lines : ℕ → List Value → List ℕ
heap_lines node [] = []
heap_lines node (value ∷ values) = line (heap_words node value) ++ heap_lines (node + 1) values

-- the lines that no schedule, emission or restart is read from: heaps and the end
unfoldable pub closing : Lines → List ℕ
closing l = heap_lines 0 l.heaps ++ line (end_words l.ending (length l.turns) l.waiting)

-- the text of a report
unfoldable pub text : Lines → List ℕ
text l = flat_map (λ t. line (turn_words t)) l.turns ++ (flat_map (λ e. line (emit_words e)) l.emissions ++ (flat_map (λ r. line (restart_words r)) l.restarts ++ closing l))

-- the lines of a run: turns, heaps and how much waits are what playing the schedule gives
unfoldable pub lines_of : Game → List Step → List Emission → List RestartLine → Ending → Lines
lines_of g schedule emissions restarts ending = record {
  turns = turn_lines g (start g) schedule;
  emissions = emissions;
  restarts = restarts;
  heaps = map (λ v. ((play g schedule).place v).value) (nodes_of g);
  ending = ending;
  waiting = waiting g (play g schedule);
}

-- the report of a run
abbrev pub report : Game → List Step → List Emission → List RestartLine → Ending → List ℕ
report g schedule emissions restarts ending = text (lines_of g schedule emissions restarts ending)
