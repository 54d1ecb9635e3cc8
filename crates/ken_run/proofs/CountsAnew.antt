-- The count of refusals of an output, over restarts.
use Rattle.std.proofs.Common.{◌≡◌, ℕ, ◌≤◌, ◌∙◌, Result, Ok, Err, arith}
use Rattle.std.specs.Prelude.{IsErrAnd}
use Rattle.ken_work.specs.Parts.{CountsAnew}

-- after an error it is as it was
pub counts-failed : {T E : Type 0} (result : Result T E) (P : E → Type 0) (old new : ℕ) → IsErrAnd result P → new ≡ old → CountsAnew result old new
counts-failed (Ok x) P old new failed same = absurd failed
counts-failed (Err fault) P old new failed same = same

-- it never rises
pub counts-less : {T E : Type 0} (result : Result T E) (old new : ℕ) → CountsAnew result old new → new ≤ old
counts-less (Ok x) old new is = omega (arith, is)
counts-less (Err fault) old new is = omega (arith, is)

-- where none was counted none is
pub counts-none : {T E : Type 0} (result : Result T E) (old new : ℕ) → old ≡ 0 → CountsAnew result old new → new ≡ 0
counts-none (Ok x) old new none is = is
counts-none (Err fault) old new none is = is ∙ none
