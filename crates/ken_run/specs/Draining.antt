-- Passes until a run has ended.
use Rattle.std.specs.Prelude.{◌≡◌, ℕ, ◌<◌, List, Bool, true, false, Option, Result, Ok, Err}
use Rattle.ken_disk.specs.Story.{Story}
use Rattle.ken_model.specs.declared.messages.Out.{Out}
use Rattle.ken_model.specs.Game.{Game}
use Rattle.ken_model.specs.Handler.{Handler}
use Rattle.ken_node.specs.declared.watched.Watched.{Watched}
use Rattle.ken_flow.specs.Standstill.{HasEnded, Passed}
use Rattle.ken_run.specs.declared.drain.PassOutcome.{PassOutcome}
use Rattle.ken_run.specs.declared.drain.PassOutcome.TheVariants.{Ended, Progressed, Idle}
use Rattle.ken_run.specs.declared.faults.RunFault.{RunFault}
use Rattle.ken_run.specs.declared.run.Run.{Run}
use Rattle.ken_run.specs.Flowing.{flow_of, work_left}
use Rattle.ken_run.specs.Open.{open_left}
use Rattle.ken_run.specs.Running.{IsRunning, LeavesRunFault}

module _ {D O U A : Type 0} (told : Watched D → Option Story) (size : Watched D → ℕ) (took : U → Option (List Out)) (handles : A → Handler) where
  -- a run of some game goes on, all nodes of which were made
  pub record MayDrain (r : Run D O U A) : Type 0 where
    pub game : Game
    pub made : ℕ
    pub running : IsRunning told size took handles game made r
    pub all : made ≡ game.nodes

  -- it goes on, and has ended
  abbrev pub HasRun : Game → ℕ → Run D O U A → Type 0
  HasRun g made r = (now : IsRunning told size took handles g made r) × HasEnded g now.emissions now.nodes

  -- by the answer: the run has ended, or it may not go on
  abbrev pub DrainsBy : {T : Type 0} → Result T RunFault → Game → ℕ → Run D O U A → Type 0
  DrainsBy (Ok x) g made r = HasRun g made r
  DrainsBy (Err fault) g made r = LeavesRunFault told size took handles fault g made r

  -- where all nodes were made, all stay up
  abbrev pub StaysWhole : Run D O U A → Run D O U A → Type 0
  StaysWhole old new = (g : Game) (made : ℕ) → IsRunning told size took handles g made old → made ≡ g.nodes → IsRunning told size took handles g made new

  -- by the answer of passes: the run has ended, or less work is left, or as much, and the flow moved so
  abbrev pub PassesBy : (Run D O U A → Run D O U A → Type 0) → Result PassOutcome RunFault → Run D O U A → Run D O U A → Type 0
  PassesBy moved (Ok Ended) old new = (g : Game) (made : ℕ) → IsRunning told size took handles g made old → made ≡ g.nodes → HasRun g made new
  PassesBy moved (Ok Progressed) old new = StaysWhole old new × (work_left new < work_left old)
  PassesBy moved (Ok Idle) old new = moved old new × StaysWhole old new × (work_left new ≡ work_left old)
  PassesBy moved (Err fault) old new = (g : Game) (made : ℕ) → IsRunning told size took handles g made old → made ≡ g.nodes → LeavesRunFault told size took handles fault g made new

  -- a pass that did no work, after which the run hasn't ended
  pub record Idled (g : Game) (made : ℕ) (old new : Run D O U A) (was : IsRunning told size took handles g made old) : Type 0 where
    pub now : IsRunning told size took handles g made new
    pub passed : Passed g (flow_of was.nodes old) (flow_of now.nodes new)
    pub goes_on : HasEnded g now.emissions now.nodes → ⊥

  abbrev pub PassedIdly : Run D O U A → Run D O U A → Type 0
  PassedIdly old new = (g : Game) (made : ℕ) (was : IsRunning told size took handles g made old) → made ≡ g.nodes → Idled g made old new was

-- less is open
abbrev pub LessIsOpen : {D O U A : Type 0} → Run D O U A → Run D O U A → Type 0
LessIsOpen old new = open_left new < open_left old

module _ {D O U A : Type 0} (told : Watched D → Option Story) (size : Watched D → ℕ) (took : U → Option (List Out)) (handles : A → Handler) where
  -- passes until one makes progress or the run has ended, by the answer: the run has ended, or less work is left
  abbrev pub ProgressesBy : Result Bool RunFault → Run D O U A → Run D O U A → Type 0
  ProgressesBy (Ok true) old new = (g : Game) (made : ℕ) → IsRunning told size took handles g made old → made ≡ g.nodes → HasRun told size took handles g made new
  ProgressesBy (Ok false) old new = StaysWhole told size took handles old new × (work_left new < work_left old)
  ProgressesBy (Err fault) old new = (g : Game) (made : ℕ) → IsRunning told size took handles g made old → made ≡ g.nodes → LeavesRunFault told size took handles fault g made new
