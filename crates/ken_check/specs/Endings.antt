-- How a run has ended, by what is known of its nodes.
use Rattle.std.specs.Prelude.{◌≡◌, ◌≢◌, ℕ, ◌⊎◌, List, length, Option, Some, None}
use Rattle.std.specs.List.{All, Any}
use Rattle.ken_model.specs.declared.reports.Ending.{Ending}
use Rattle.ken_model.specs.declared.reports.Ending.TheVariants.{Settled, Cut}
use Rattle.ken_check.specs.declared.known.Known.{Known}

-- a node emitted all its outputs, and nothing waits for it or it made all its turns
pub record IsDone (turns : ℕ) (k : Known) : Type 0 where
  pub emitted : k.emitted ≡ length k.outs.items
  pub over : (k.came ≡ k.turns) ⊎ (k.turns ≡ turns)

-- how a run has ended whose nodes make at most so many turns, where it has
abbrev pub EndsBy : ℕ → List Known → Option Ending → Type 0
EndsBy turns ks (Some Settled) = All (IsDone turns) ks × All (λ k. k.came ≡ k.turns) ks
EndsBy turns ks (Some Cut) = All (IsDone turns) ks × Any (λ k. k.came ≢ k.turns) ks
EndsBy turns ks None = Any (λ k. IsDone turns k → ⊥) ks
