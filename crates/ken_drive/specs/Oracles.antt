-- The answers of an oracle in memory.
use Rattle.std.specs.Prelude.{ℕ, ◌+◌, ◌-◌, ◌%◌, ◌^◌, List, nat_lt, if◌then◌else◌, Option, Some, None, true}
use Rattle.std.specs.List.{range_with_len}
use Rattle.ken_num.specs.Generator.{answers}
use Rattle.ken_app.specs.Oracles.{Origin, Telling}

-- whose an oracle is, how often it was asked, and the state of its generator
pub record Answered : Type 0 where
  pub origin : Origin
  pub readings : ℕ
  pub words : ℕ
  pub state : ℕ

-- where the words of a node begin
abbrev pub start_of : Origin → ℕ
start_of origin = (origin.seed + origin.node) % 2 ^ 64

-- an oracle that has answered nothing
abbrev pub unasked : Origin → Answered
unasked origin = record { origin = origin; readings = 0; words = 0; state = start_of origin }

-- it tells its answers as long as their count is exact
abbrev pub told : ℕ → List ℕ → Option (List ℕ)
told count answered = if nat_lt count (2 ^ 64 - 1) then Some answered else None

-- the clock counts from 1
abbrev pub clocks_told : Answered → Option (List ℕ)
clocks_told a = told a.readings (range_with_len 1 a.readings)

-- the words are those of the generator
abbrev pub words_told : Answered → Option (List ℕ)
words_told a = told a.words (answers a.words (start_of a.origin))

-- what it tells: not the order between readings and words
abbrev pub telling_of_memory : Telling Answered
telling_of_memory = record { clocks = clocks_told; words = words_told; answers = λ a. None; origin = λ a. Some a.origin; always = true }
