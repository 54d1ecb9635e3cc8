-- What an oracle has answered in a turn.
use Rattle.std.proofs.Common.{ℕ, List, [], ◌∷◌, Option, Some, None, sym, arith, append-nil}
use Rattle.ken_app.specs.Oracles.{Answers, HasAnswered}

none : (o : Option (List ℕ)) → Answers o o []
none None = tt
none (Some xs) = sym (append-nil xs)

-- nothing
pub no_answer : (o : Option (List ℕ)) → HasAnswered o o
no_answer o = record { more = []; few = omega arith; answers = none o }

-- one answer
pub one_answer : (before now : Option (List ℕ)) (n : ℕ) → Answers before now (n ∷ []) → HasAnswered before now
one_answer before now n answers = record { more = n ∷ []; few = omega arith; answers = answers }
