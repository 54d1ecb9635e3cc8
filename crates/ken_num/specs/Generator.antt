-- The generator of random words: a linear congruence, of which each answer is the high part.
use Rattle.std.specs.Prelude.{ℕ, zero, suc, ◌+◌, ◌*◌, ◌/◌, ◌%◌, ◌^◌, List, [], ◌∷◌}

-- the state after one step
abbrev pub next_state : ℕ → ℕ
next_state x = (x * 6364136223846793005 + 1442695040888963407) % 2 ^ 64

-- what it answers in a state: all but the lowest 33 bits
abbrev pub answer_of : ℕ → ℕ
answer_of x = x / 2 ^ 33

-- its first k answers from a state
abbrev pub answers : ℕ → ℕ → List ℕ
answers zero x = []
answers (suc k) x = answer_of (next_state x) ∷ answers k (next_state x)

-- the state after them
abbrev pub state_after : ℕ → ℕ → ℕ
state_after zero x = x
state_after (suc k) x = state_after k (next_state x)
