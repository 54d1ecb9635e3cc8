-- What calls ask of a game.
use Rattle.std.specs.Prelude.{◌≡◌, ℕ, ◌*◌, ◌<◌, ◌≤◌, List, length}
use Rattle.std.specs.List.{AllByRecursion}
use Rattle.ken_model.specs.declared.facts.Input.{Input}
use Rattle.ken_model.specs.declared.facts.TheConstants.{MAX_NODES, MAX_TURNS, PAGE, MAX_PAGES, MAX_INPUTS, MAX_TEXT}
use Rattle.ken_model.specs.Game.{Game}

-- a byte that an input's text may hold: no control character, and no byte past ASCII
abbrev pub IsPlain : ℕ → Type 0
IsPlain b = (32 ≤ b) × (b ≤ 126)

abbrev pub ArePlain : List ℕ → Type 0
ArePlain bytes = AllByRecursion IsPlain bytes

-- the limits of a run; of the handler they say nothing
pub record IsWithinLimits (g : Game) : Type 0 where
  pub some_node : 0 < g.nodes
  pub few_nodes : g.nodes ≤ MAX_NODES
  pub some_turn : 0 < g.turns
  pub few_turns : g.turns ≤ MAX_TURNS
  pub pages : (n : ℕ) × (0 < n) × (n ≤ MAX_PAGES) × (g.size ≡ PAGE * n)
  pub few_inputs : length g.inputs ≤ MAX_INPUTS
  pub inputs : AllByRecursion (λ (i : Input). (i.node < g.nodes) × (length i.text ≤ MAX_TEXT)) g.inputs

-- no input holds a line feed, nor another byte that its text may not hold
abbrev pub IsPlainRun : Game → Type 0
IsPlainRun g = AllByRecursion (λ (i : Input). ArePlain i.text) g.inputs
