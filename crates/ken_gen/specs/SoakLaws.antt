-- What holds of a soak run, whatever its schedule.
use Rattle.std.specs.Prelude.{◌≡◌, ℕ, ◌<◌, ◌≤◌, ◌^◌, List}
use Rattle.ken_model.specs.declared.facts.TheConstants.{MAX_INPUTS, MAX_NODES}
use Rattle.ken_model.specs.declared.messages.Step.{Step}
use Rattle.ken_model.specs.Ending.{IsCut, IsSettled, waiting_on}
use Rattle.ken_model.specs.Game.{Game, game_of}
use Rattle.ken_model.specs.Network.{Network}
use Rattle.ken_model.specs.Schedule.{IsLegal, play}
use Rattle.ken_gen.specs.Generated.{script_of}
use Rattle.ken_gen.specs.Summary.{all_roots, all_turns, summary, summary_of, totals_in}

-- the game of a soak run
abbrev pub soak_game : ℕ → ℕ → ℕ → Game
soak_game seed nodes inputs = game_of (script_of seed nodes inputs 0).facts

-- each node for which something waits has turns left, so the run isn't cut; and where nothing waits the nodes came to what the summary
-- tells, and 64 bits hold the sums of their turns and roots
pub record IsSoaked (seed nodes inputs : ℕ) (w : Network) : Type 0 where
  pub enough : (u v : ℕ) → 0 < waiting_on (w.link u v) → (w.place v).turns < (soak_game seed nodes inputs).turns
  pub not_cut : IsCut (soak_game seed nodes inputs) w → ⊥
  pub told : IsSettled w → summary_of seed inputs (totals_in (soak_game seed nodes inputs) w) ≡ summary seed nodes inputs
  pub few_turns : IsSettled w → all_turns (totals_in (soak_game seed nodes inputs) w) < 2 ^ 64
  pub small_roots : IsSettled w → all_roots (totals_in (soak_game seed nodes inputs) w) < 2 ^ 64

-- so it is after each legal schedule
abbrev pub SoaksComeOut : Type 0
SoaksComeOut = (seed nodes inputs : ℕ) (schedule : List Step) → 0 < nodes → nodes ≤ MAX_NODES → inputs ≤ MAX_INPUTS → IsLegal (soak_game seed nodes inputs) schedule → IsSoaked seed nodes inputs (play (soak_game seed nodes inputs) schedule)
