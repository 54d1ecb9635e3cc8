-- The lines that a report may have, one after the other: what a line has to say, given those before it.
use Rattle.std.specs.Prelude.{◌≡◌, ℕ, ◌+◌, ◌<◌, ◌≤◌, List, [], ◌∷◌, ◌++◌, length, Bool, true, false, Some}
use Rattle.std.specs.List.{AllByRecursion}
use Rattle.ken_model.specs.declared.messages.Step.{Step}
use Rattle.ken_model.specs.declared.reports.Emission.{Emission}
use Rattle.ken_model.specs.declared.reports.Ending.{Ending}
use Rattle.ken_model.specs.declared.reports.RestartLine.{RestartLine}
use Rattle.ken_model.specs.Emissions.{AreByNode, AreEmitted, emitted_by}
use Rattle.ken_model.specs.Ending.{Ends, waiting}
use Rattle.ken_model.specs.Game.{Game}
use Rattle.ken_model.specs.Network.{Turn, turn_of}
use Rattle.ken_model.specs.Report.{emit_words, end_words, heap_words, line, restart_words, turn_words}
use Rattle.ken_model.specs.Restarts.{AreRestartsByNode, NeverFall, restarts_of}
use Rattle.ken_model.specs.Schedule.{IsLegal, play, turn_line}
use Rattle.ken_model.specs.Spelling.{IsPrintableEmission, IsPrintableTurn, IsWord}

-- what the lines of a report have told so far: its turns, emissions and restarts, of how many nodes it had the heap, and whether it ended
pub record Told : Type 0 where
  pub schedule : List Step
  pub emissions : List Emission
  pub restarts : List RestartLine
  pub heaps : ℕ
  pub ended : Bool

abbrev pub nothing_told : Told
nothing_told = record { schedule = []; emissions = []; restarts = []; heaps = 0; ended = false }

-- kinds of lines come in this order: turns, emissions, restarts, heaps, the end
pub record ComesBeforeEnd (told : Told) : Type 0 where
  pub open_yet : told.ended ≡ false

pub record ComesBeforeHeaps (told : Told) : Type 0 where
  pub open_yet : told.ended ≡ false
  pub heaps : told.heaps ≡ 0

pub record ComesBeforeRestarts (told : Told) : Type 0 where
  pub open_yet : told.ended ≡ false
  pub heaps : told.heaps ≡ 0
  pub restarts : told.restarts ≡ []

pub record ComesBeforeEmissions (told : Told) : Type 0 where
  pub open_yet : told.ended ≡ false
  pub heaps : told.heaps ≡ 0
  pub restarts : told.restarts ≡ []
  pub emissions : told.emissions ≡ []

-- emissions of a run that may go on: by its nodes, node by node, each node's in the order of its outputs
pub record AreEmissionsSoFar (g : Game) (schedule : List Step) (es : List Emission) : Type 0 where
  pub known : AllByRecursion (λ (e : Emission). e.node < g.nodes) es
  pub by_node : AreByNode 0 es
  pub each : (v : ℕ) → v < g.nodes → AreEmitted ((play g schedule).place v).outs 0 (emitted_by v es)

-- restarts of its nodes, node by node: of each node so many at most, with numbers of turns that don't fall and that it made
pub record AreRestartsSoFar (g : Game) (most : ℕ) (schedule : List Step) (rs : List RestartLine) : Type 0 where
  pub by_node : AreRestartsByNode g.nodes 0 rs
  pub few : (v : ℕ) → v < g.nodes → length (restarts_of v rs) ≤ most
  pub rise : (v : ℕ) → v < g.nodes → NeverFall 0 (restarts_of v rs) ((play g schedule).place v).turns

-- a line, with its line feed, is right after what was told, and what is told with it. A turn line names the next step of a legal schedule,
-- with its stamp and number; emissions and restarts are those of a run; heaps are those of playing the schedule; and the end line has the
-- ending of the run, whose outputs were all emitted, with how many turns it made and, where it is cut, how much waits. Numbers of turns, emissions and restarts
-- have 64 bits
pub data IsRightLine (g : Game) (most : ℕ) (told : Told) : List ℕ → Told → Type 0 where
  turn : (s : Step) → (t : Turn) → ComesBeforeEmissions told → IsLegal g (told.schedule ++ s ∷ []) → turn_of g (play g told.schedule) s ≡ Some t → IsPrintableTurn (turn_line s t)
      → IsRightLine g most told (line (turn_words (turn_line s t))) (record told { schedule = told.schedule ++ s ∷ [] })
  emission : (e : Emission) → ComesBeforeRestarts told → AreEmissionsSoFar g told.schedule (told.emissions ++ e ∷ []) → IsPrintableEmission e
      → IsRightLine g most told (line (emit_words e)) (record told { emissions = told.emissions ++ e ∷ [] })
  restart : (r : RestartLine) → ComesBeforeHeaps told → AreRestartsSoFar g most told.schedule (told.restarts ++ r ∷ []) → IsWord r.node × IsWord r.turns
      → IsRightLine g most told (line (restart_words r)) (record told { restarts = told.restarts ++ r ∷ [] })
  heap : ComesBeforeEnd told → told.heaps < g.nodes
      → IsRightLine g most told (line (heap_words told.heaps ((play g told.schedule).place told.heaps).value)) (record told { heaps = told.heaps + 1 })
  ends : (ending : Ending) → ComesBeforeEnd told → told.heaps ≡ g.nodes → Ends g (play g told.schedule) told.emissions ending
      → IsRightLine g most told (line (end_words ending (length told.schedule) (waiting g (play g told.schedule)))) (record told { ended = true })
