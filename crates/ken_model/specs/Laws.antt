-- The laws that the definitions keep.
use Rattle.std.specs.Prelude.{◌≡◌, ℕ, ◌<◌, List, map, Option, Some, None}
use Rattle.ken_model.specs.declared.messages.Step.{Step}
use Rattle.ken_model.specs.declared.reports.TurnLine.{TurnLine}
use Rattle.ken_model.specs.declared.reports.Lines.{Lines}
use Rattle.ken_model.specs.declared.values.Block.{Block}
use Rattle.ken_model.specs.declared.values.Value.{Value}
use Rattle.ken_model.specs.Game.{Game}
use Rattle.ken_model.specs.Heap.{IsHeap, IsFit, first_gap}
use Rattle.ken_model.specs.Network.{Turn, start}
use Rattle.ken_model.specs.Schedule.{IsLegal, play, turn_lines}
use Rattle.ken_model.specs.History.{InAccord, IsHistory, Shows}
use Rattle.ken_model.specs.Report.{text}
use Rattle.ken_model.specs.Spelling.{spell, IsPrintable}

abbrev pub steps_of : List TurnLine → List Step
steps_of lines = map (λ (l : TurnLine). l.step) lines

-- the lines are those of a legal schedule, and playing it shows what the nodes' turns show
pub record IsPlayed (g : Game) (h : ℕ → List Turn) (lines : List TurnLine) : Type 0 where
  pub legal : IsLegal g (steps_of lines)
  pub lines_are : turn_lines g (start g) (steps_of lines) ≡ lines
  pub shows : Shows g h (play g (steps_of lines))

-- turns that agree with each other are a legal schedule in the order of stamps and nodes, however they came about
abbrev pub AgreementIsLegal : Type 0
AgreementIsLegal = (g : Game) (h : ℕ → List Turn) (lines : List TurnLine) → InAccord g h → IsHistory h lines → IsPlayed g h lines

-- the text of a report gives back the run that it tells of
abbrev pub ReportSpellsItsRun : Type 0
ReportSpellsItsRun = (l : Lines) → IsPrintable l → spell (text l) ≡ record { schedule = steps_of l.turns; emissions = l.emissions; restarts = l.restarts }

-- the lowest of the places where a block of n bytes fits, or none where it fits nowhere
abbrev pub IsLeastFit : ℕ → ℕ → List Block → ℕ → Option ℕ → Type 0
IsLeastFit from size bs n None = (q : ℕ) → IsFit from size bs n q → ⊥
IsLeastFit from size bs n (Some p) = IsFit from size bs n p × ((q : ℕ) → q < p → IsFit from size bs n q → ⊥)

-- the first gap of a heap is the lowest place where a block fits
abbrev pub FirstGapIsLeast : Type 0
FirstGapIsLeast = (v : Value) (n : ℕ) → IsHeap v → IsLeastFit 16 v.size v.blocks n (first_gap v n)
