-- The answers of a generator, as it gives one more.
use Rattle.std.proofs.Common.{◌≡◌, ℕ, zero, suc, [], ◌∷◌, ◌++◌, refl, ap}
use Rattle.ken_num.specs.Generator.{next_state, answer_of, answers, state_after}

pub answers-push : (k x : ℕ) → answers (suc k) x ≡ answers k x ++ answer_of (next_state (state_after k x)) ∷ []
answers-push zero x = refl
answers-push (suc k) x = ap (λ l. answer_of (next_state x) ∷ l) (answers-push k (next_state x))

pub state_after-push : (k x : ℕ) → state_after (suc k) x ≡ next_state (state_after k x)
state_after-push zero x = refl
state_after-push (suc k) x = state_after-push k (next_state x)
