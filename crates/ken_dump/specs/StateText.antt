-- The text of what a node's log and heap tell, a fact a line.
use Rattle.std.specs.Prelude.{ℕ, ◌+◌, nat_lt, if◌then◌else◌, List, [], ◌∷◌, ◌++◌, length, codes, decimal}
use Rattle.std.specs.List.{flat_map}
use Rattle.ken_model.specs.declared.messages.Message.{Message}
use Rattle.ken_model.specs.declared.messages.Out.{Out}
use Rattle.ken_model.specs.declared.states.State.{State}
use Rattle.ken_model.specs.declared.values.Value.{Value}
use Rattle.ken_model.specs.Report.{heap_words, line}

abbrev pub node_words : ℕ → State → List (List ℕ)
node_words v s =
    codes "node" ∷ decimal v ∷ codes "turns" ∷ decimal s.turns ∷ codes "stamp" ∷ decimal s.stamp
    ∷ codes "outputs" ∷ decimal s.outputs ∷ []

-- the word of a sender by its place: nodes 0 to 7, then the outside
abbrev pub place_word : ℕ → List ℕ
place_word u = if nat_lt u 8 then decimal u else codes "out"

-- the line of a number above 0
abbrev pub count_line : List ℕ → List ℕ → ℕ → List ℕ
count_line word name n = if nat_lt 0 n then line (word ∷ name ∷ decimal n ∷ []) else []

-- a line for each number above 0, from this place on
unfoldable pub count_lines : List ℕ → (ℕ → List ℕ) → ℕ → List ℕ → List ℕ
count_lines word name u [] = []
count_lines word name u (n ∷ ns) = count_line word (name u) n ++ count_lines word name (u + 1) ns

abbrev pub waiting_words : Message → List (List ℕ)
waiting_words m = codes "waiting" ∷ decimal m.to ∷ decimal m.number ∷ decimal (length m.bytes) ∷ []

-- the messages that may still be asked for
abbrev pub waiting_lines : List Message → List ℕ
waiting_lines messages = flat_map (λ (m : Message). line (waiting_words m)) messages

abbrev pub due_words : Out → List (List ℕ)
due_words o = codes "due" ∷ decimal o.number ∷ o.text ∷ []

-- the outputs that may still have to be emitted
abbrev pub due_lines : List Out → List ℕ
due_lines outs = flat_map (λ (o : Out). line (due_words o)) outs

-- what a state and a heap's value say of node v: its counts, its heap, how far it consumed of each sender and sent to each
-- node, and what may still be asked for or have to be emitted
abbrev pub state_text : ℕ → State → Value → List ℕ
state_text v s value =
    line (node_words v s) ++ (line (heap_words v value)
    ++ (count_lines (codes "from") place_word 0 s.consumed ++ (count_lines (codes "sent") decimal 0 s.sent
    ++ (waiting_lines s.messages ++ due_lines s.outs))))
