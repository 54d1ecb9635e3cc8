-- Right lines, by their kinds.
use Rattle.std.specs.Prelude.{◌≡◌, ℕ, ◌+◌, ◌<◌, List, [], ◌∷◌, ◌++◌, length, true, Some}
use Rattle.ken_model.specs.declared.messages.Step.{Step}
use Rattle.ken_model.specs.declared.reports.Emission.{Emission}
use Rattle.ken_model.specs.declared.reports.Ending.{Ending}
use Rattle.ken_model.specs.declared.reports.RestartLine.{RestartLine}
use Rattle.ken_model.specs.Ending.{Ends, waiting}
use Rattle.ken_model.specs.Game.{Game}
use Rattle.ken_model.specs.Network.{Turn, turn_of}
use Rattle.ken_model.specs.Report.{emit_words, end_words, heap_words, line, restart_words, turn_words}
use Rattle.ken_model.specs.Schedule.{IsLegal, play, turn_line}
use Rattle.ken_model.specs.Spelling.{IsPrintableEmission, IsPrintableTurn, IsWord}
use Rattle.ken_check.specs.Right.{AreEmissionsSoFar, AreRestartsSoFar, ComesBeforeEmissions, ComesBeforeEnd, ComesBeforeHeaps, ComesBeforeRestarts, Told}

-- after what was told a line is right as a turn line, and what is told with it
pub record IsTurnLine (g : Game) (told : Told) (bytes : List ℕ) (told2 : Told) : Type 0 where
  pub step : Step
  pub turn : Turn
  pub comes : ComesBeforeEmissions told
  pub legal : IsLegal g (told.schedule ++ step ∷ [])
  pub made : turn_of g (play g told.schedule) step ≡ Some turn
  pub printable : IsPrintableTurn (turn_line step turn)
  pub text : bytes ≡ line (turn_words (turn_line step turn))
  pub tells : told2 ≡ record told { schedule = told.schedule ++ step ∷ [] }

-- and the turn is that of this step
abbrev pub IsTurnOf : Game → Step → Told → List ℕ → Told → Type 0
IsTurnOf g s told bytes told2 = (line : IsTurnLine g told bytes told2) × (line.step ≡ s)

-- as an emission line
pub record IsEmissionLine (g : Game) (told : Told) (bytes : List ℕ) (told2 : Told) : Type 0 where
  pub emission : Emission
  pub comes : ComesBeforeRestarts told
  pub so_far : AreEmissionsSoFar g told.schedule (told.emissions ++ emission ∷ [])
  pub printable : IsPrintableEmission emission
  pub text : bytes ≡ line (emit_words emission)
  pub tells : told2 ≡ record told { emissions = told.emissions ++ emission ∷ [] }

-- and the emission is of this node's output of that number
abbrev pub IsEmissionOf : Game → ℕ → ℕ → Told → List ℕ → Told → Type 0
IsEmissionOf g node number told bytes told2 = (line : IsEmissionLine g told bytes told2) × (line.emission.node ≡ node) × (line.emission.out.number ≡ number)

-- as a restart line
pub record IsRestartLine (g : Game) (most : ℕ) (told : Told) (bytes : List ℕ) (told2 : Told) : Type 0 where
  pub restart : RestartLine
  pub comes : ComesBeforeHeaps told
  pub so_far : AreRestartsSoFar g most told.schedule (told.restarts ++ restart ∷ [])
  pub printable : IsWord restart.node × IsWord restart.turns
  pub text : bytes ≡ line (restart_words restart)
  pub tells : told2 ≡ record told { restarts = told.restarts ++ restart ∷ [] }

-- and it is this restart
abbrev pub IsRestartOf : Game → ℕ → RestartLine → Told → List ℕ → Told → Type 0
IsRestartOf g most r told bytes told2 = (line : IsRestartLine g most told bytes told2) × (line.restart ≡ r)

-- as a heap line
pub record IsHeapLine (g : Game) (told : Told) (bytes : List ℕ) (told2 : Told) : Type 0 where
  pub comes : ComesBeforeEnd told
  pub known : told.heaps < g.nodes
  pub text : bytes ≡ line (heap_words told.heaps ((play g told.schedule).place told.heaps).value)
  pub tells : told2 ≡ record told { heaps = told.heaps + 1 }

-- as an end line
pub record IsEndLine (g : Game) (told : Told) (bytes : List ℕ) (told2 : Told) : Type 0 where
  pub ending : Ending
  pub comes : ComesBeforeEnd told
  pub heaps : told.heaps ≡ g.nodes
  pub ends : Ends g (play g told.schedule) told.emissions ending
  pub text : bytes ≡ line (end_words ending (length told.schedule) (waiting g (play g told.schedule)))
  pub tells : told2 ≡ record told { ended = true }
